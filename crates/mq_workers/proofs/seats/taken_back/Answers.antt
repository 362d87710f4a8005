use Rattle.std.proofs.Common.{[], ◌∷◌, ◌++◌, All, sym, subst, ap, rules}
use Rattle.mq_claims.specs.Calls.{handed_in}
use Rattle.mq_workers.specs.Runs.{EachIsRun, HasWorked}
use Rattle.mq_workers.proofs.ListLemmas.{all_front, all_last}
use Rattle.mq_workers.proofs.RunLemmas.{each_of_both}
use Rattle.mq_workers.proofs.seats.taken_back.Goals as goal

pub lent-preserved : goal.lent-preserved
lent-preserved g c =
    let board = c.args.board.now in let ran = g.P.Piece.ran in let Q = HasWorked ran board in let seat = c.in-Some.seat in
    let cut : All Q (c.pop.new.self.items ++ seat ∷ []) = subst (All Q) c.in-Some.ensures.items c.lent.invariant.1 in
    let each = each_of_both ran (handed_in board) _ _ c.lent.invariant.0.0.2 (all_last Q _ seat cut).2 in (
      (
        (search rules, search rules, subst (EachIsRun ran (handed_in board)) (sym (ap (λ m. m.0.entries) c.join.ensures.gained)) each),
        search rules,
        search rules,
      ),
      all_front Q _ seat cut,
    )
