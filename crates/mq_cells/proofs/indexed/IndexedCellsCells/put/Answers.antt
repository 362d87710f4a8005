use Rattle.std.proofs.Common.{◌≡◌, Some, sym, ap, subst, ◌∙◌}
use Rattle.std.proofs.lemmas.Bool.{and_parts}
use Rattle.mq_cells.specs.IndexedStores.{IndexedStore, input_in, keys_in, results_of, results_over_numbers}
use Rattle.mq_cells.specs.Stores.{DiffersAt, Results, cell_name}
use Rattle.mq_cells.proofs.IndexLemmas.{item_differs, kept_put, same_input, same_items, same_results}
use Rattle.mq_cells.proofs.IndexLemmas.{on_err}
use Rattle.mq_cells.proofs.indexed.IndexedCellsCells.put.Goals as goal

pub returns-in_err-put-clause-err : goal.returns-in_err-put-clause-err
unfolding keys_in input_in results_of
returns-in_err-put-clause-err c =
    on_err _ c.from_residual-in_err-put.result
    (
    same_items c.add.new.self c.self.inside.results c.put.new.self c.in_err-put.ensures.err
    ∙ same_results c.self.inside.cells c.add.new.self c.add.ensures.grows c.self.inside.results c.self.invariant.free_lanes
    ∙ ap (λ (s : IndexedStore). results_of s) c.self.view_is
    )

pub returns-in_err-put-clause-same_input : goal.returns-in_err-put-clause-same_input
unfolding keys_in input_in results_of
returns-in_err-put-clause-same_input c =
    same_input c.self.inside.cells c.add.new.self c.add.ensures.grows c.self.inside.given c.self.invariant.free_given ∙ ap (λ (s : IndexedStore). input_in s) c.self.view_is

pub invariant_of-self-2 : goal.invariant_of-self-2
unfolding keys_in input_in results_of
invariant_of-self-2 c =
    kept_put c.self.inside.cells c.add.new.self c.self.inside.given c.self.inside.results c.put.new.self c.self.inside.sound _ c.args.m c.in_ok-number.number (Some c.args.s) c.self.invariant c.add.ensures.grows
    (c.add.ensures.told.below c.args.key.now c.in_ok-number.number c.in_ok-number.ensures.found) c.in_ok-put.ensures.ok
    (λ both. let parts = and_parts c.self.inside.sound c.is_done.result both in (parts.0, sym c.is_done.ensures ∙ parts.1))

pub returns-clause-ok : goal.returns-clause-ok
unfolding keys_in input_in results_of
returns-clause-ok c =
    let before : results_over_numbers c.add.new.self c.self.inside.results ≡ results_of c.args.self.now =
    same_results c.self.inside.cells c.add.new.self c.add.ensures.grows c.self.inside.results c.self.invariant.free_lanes ∙ ap (λ (s : IndexedStore). results_of s) c.self.view_is in
    subst (λ (r : Results). DiffersAt r (results_over_numbers c.add.new.self c.put.new.self) (cell_name c.args.key.now c.args.m) (Some c.args.s)) before
    (item_differs c.add.new.self c.add.ensures.told c.args.key.now c.args.m c.in_ok-number.number c.in_ok-number.ensures.found c.self.inside.results c.put.new.self (Some c.args.s) c.in_ok-put.ensures.ok)

pub returns-clause-same_input : goal.returns-clause-same_input
unfolding keys_in input_in results_of
returns-clause-same_input c =
    same_input c.self.inside.cells c.add.new.self c.add.ensures.grows c.self.inside.given c.self.invariant.free_given ∙ ap (λ (s : IndexedStore). input_in s) c.self.view_is
