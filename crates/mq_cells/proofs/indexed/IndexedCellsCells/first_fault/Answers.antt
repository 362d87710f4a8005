use Rattle.std.proofs.Common.{sym, ap, ◌∙◌}
use Rattle.mq_cells.specs.IndexedStores.{IndexedStore, results_of}
use Rattle.mq_cells.specs.Stores.{first_faulted}
use Rattle.mq_cells.proofs.IndexLemmas.{no_fault}
use Rattle.mq_cells.proofs.indexed.IndexedCellsCells.first_fault.Goals as goal

pub returns-then-self : goal.returns-then-self
unfolding results_of
returns-then-self c =
    sym (no_fault c.self.inside.cells c.self.inside.results (c.self.invariant.all_sound c.if-self.true) c.args.s.now.assigned)
    ∙ ap (λ (s : IndexedStore). first_faulted (results_of s) c.args.s.now.assigned) c.self.view_is
