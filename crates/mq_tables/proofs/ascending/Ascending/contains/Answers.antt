use Rattle.std.proofs.Common.{List, not, ap, ◌∙◌}
use Rattle.mq_ir.specs.Keys.{Tuple, is_among}
use Rattle.mq_tables.proofs.StandingLemmas.{stands, stands_not}
use Rattle.mq_tables.proofs.ascending.Ascending.contains.Goals as goal

pub returns-then-holds : goal.returns-then-holds
returns-then-holds c =
    let own = c.self.inside in
    let key = c.args.key.now in
    ap not c.contains.ensures
    ∙ stands own.gone.keys own.keys.items c.args.self.now key c.holds.result c.self.view_is (c.holds.ensures ∙ ap (λ (l : List Tuple). is_among l key) c.as_slice.ensures.value) c.if-holds.true

pub returns-else-holds : goal.returns-else-holds
returns-else-holds c =
    let own = c.self.inside in
    let key = c.args.key.now in
    stands_not own.gone.keys own.keys.items c.args.self.now key c.holds.result c.self.view_is (c.holds.ensures ∙ ap (λ (l : List Tuple). is_among l key) c.as_slice.ensures.value) c.if-holds.false
