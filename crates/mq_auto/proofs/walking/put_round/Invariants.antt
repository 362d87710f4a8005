use Rattle.std.proofs.Common.{◌≡◌}
use Rattle.mq_auto.specs.Walks.{model_in}
use Rattle.mq_auto.proofs.WalkLemmas.{ArePut}
use Rattle.mq_auto.proofs.walking.put_round.Given as goal

abbrev pub invariant-slots : goal.invariant-slots
invariant-slots g l = record {
  put : ArePut (model_in l.work) l.work.shape.now (g.C.Cells.input l.fn.cells) (g.C.Cells.results l.fn.cells) (g.C.Cells.results l.cells) l.yielded;
  same : g.C.Cells.input l.cells ≡ g.C.Cells.input l.fn.cells;
}
