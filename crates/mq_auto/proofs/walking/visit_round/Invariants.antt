use Rattle.std.proofs.Common.{◌≡◌}
use Rattle.mq_auto.specs.Walks.{model_in}
use Rattle.mq_auto.proofs.WalkLemmas.{FoundSome}
use Rattle.mq_auto.proofs.walking.visit_round.Given as goal

abbrev pub invariant-places : goal.invariant-places
invariant-places g l = record {
  found : FoundSome (model_in l.work) l.work.shape.now (g.C.Cells.input l.fn.cells) (g.C.Cells.results l.fn.cells) (g.C.Cells.results l.cells) l.round l.place-index;
  same : g.C.Cells.input l.cells ≡ g.C.Cells.input l.fn.cells;
}
