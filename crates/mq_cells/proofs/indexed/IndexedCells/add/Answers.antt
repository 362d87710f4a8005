use Rattle.std.proofs.Common.{is_some, ap, ◌∙◌}
use Rattle.std.specs.List.{filter}
use Rattle.mq_cells.specs.IndexedStores.{IndexedStore, base_in, input_in, keys_in, results_of}
use Rattle.mq_cells.specs.Stores.{CellInput}
use Rattle.mq_cells.proofs.GatherLemmas.{base_with}
use Rattle.mq_cells.proofs.IndexLemmas.{same_input, same_results}
use Rattle.mq_cells.proofs.indexed.IndexedCells.add.Goals as goal

pub returns-clause-same_input : goal.returns-clause-same_input
unfolding keys_in input_in results_of
returns-clause-same_input c =
    same_input c.self.inside.cells c.add.new.self c.add.ensures.grows c.self.inside.given c.self.invariant.free_given ∙ ap (λ (s : IndexedStore). input_in s) c.self.view_is

pub returns-clause-same_results : goal.returns-clause-same_results
unfolding keys_in input_in results_of
returns-clause-same_results c =
    same_results c.self.inside.cells c.add.new.self c.add.ensures.grows c.self.inside.results c.self.invariant.free_lanes ∙ ap (λ (s : IndexedStore). results_of s) c.self.view_is

pub returns-clause-base : goal.returns-clause-base
unfolding keys_in input_in results_of
returns-clause-base c =
    let cells = c.self.inside.cells in
    let given = c.self.inside.given in
    ap (λ (f : CellInput). filter (λ k. is_some (f k)) c.add.new.self.keys) (same_input cells c.add.new.self c.add.ensures.grows given c.self.invariant.free_given)
    ∙ base_with cells c.add.new.self given c.args.key c.add.ensures.there c.in_ok-add.ensures.keys ∙ ap (λ (s : IndexedStore). base_in s) c.self.view_is
