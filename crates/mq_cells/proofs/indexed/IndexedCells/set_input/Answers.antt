use Rattle.std.proofs.Common.{ap, subst, ◌∙◌}
use Rattle.mq_cells.specs.IndexedStores.{IndexedStore, input_in, keys_in, results_of}
use Rattle.mq_cells.specs.Numberings.{Grows, Numbering}
use Rattle.mq_cells.proofs.IndexLemmas.{same_results}
use Rattle.mq_cells.proofs.indexed.IndexedCells.set_input.Goals as goal

pub returns-clause-same_results : goal.returns-clause-same_results
unfolding keys_in input_in results_of
returns-clause-same_results c =
    same_results c.self.inside.cells c.in_ok-cells.cells (subst (λ (before : Numbering). Grows before c.in_ok-cells.cells) c.in_ok-copy.ensures c.in_ok-cells.ensures.grows)
    c.self.inside.results c.self.invariant.free_lanes ∙ ap (λ (s : IndexedStore). results_of s) c.self.view_is
