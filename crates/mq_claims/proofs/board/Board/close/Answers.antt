use Rattle.std.proofs.Common.{◌<◌, subst}
use Rattle.std.specs.Mem.Slots.{slots_counts}
use Rattle.mq_claims.proofs.EndLemmas.{each_in, whole}
use Rattle.mq_claims.proofs.board.Board.close.Goals as goal

pub emptied-requires-clause-pieces : goal.emptied-requires-clause-pieces
emptied-requires-clause-pieces g c = λ i lt. let over = c.requires.over in
    let found = each_in _ _ _ _ _ c.close_with.ensures.values.2 over.0 over.1 over.2 i (subst
    (λ n. i < n) (slots_counts c.close_with.result.slots).0 lt) in (found.0, found.1)

pub returns : goal.returns
returns g c = let over = c.requires.over in record { whole = whole _ _ _ _ _ c.close_with.ensures.values.2 over.0 over.1 over.2 c.emptied.result.items c.emptied.ensures }
