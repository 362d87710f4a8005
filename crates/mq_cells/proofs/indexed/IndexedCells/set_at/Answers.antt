use Rattle.std.proofs.Common.{[], Some, refl, subst}
use Rattle.std.specs.Prelude.{slice_index_or}
use Rattle.mq_ir.specs.declared.query.Slot.TheVariants.{Done}
use Rattle.mq_cells.specs.IndexedStores.{IndexedStore, input_in, keys_in, results_of, results_over_numbers}
use Rattle.mq_cells.specs.Stores.{DiffersAt, cell_name}
use Rattle.mq_cells.proofs.IndexLemmas.{grown_itself, item_differs, kept_put}
use Rattle.mq_cells.proofs.indexed.IndexedCells.set_at.Goals as goal

pub invariant_of-self-2 : goal.invariant_of-self-2
unfolding keys_in input_in results_of
invariant_of-self-2 c =
    let cells = c.self.inside.cells in
    let number = c.at-number.result in
    kept_put cells cells c.self.inside.given c.self.inside.results c.put.new.self c.self.inside.sound c.self.inside.sound c.args.m number (Some (Done c.args.v)) c.self.invariant (grown_itself cells)
    (c.at-number.ensures.told.below _ number (c.at-number.ensures.found [])) c.in_ok-put.ensures.ok (λ sound. (sound, refl))

pub returns-clause-ok : goal.returns-clause-ok
unfolding keys_in input_in results_of
returns-clause-ok c = λ other.
    let cells = c.self.inside.cells in
    subst (λ (s : IndexedStore). DiffersAt (results_of s) (results_over_numbers cells c.put.new.self) (cell_name (slice_index_or (keys_in s) c.args.place other) c.args.m) (Some (Done c.args.v))) c.self.view_is
    (
    item_differs cells c.at-number.ensures.told (slice_index_or cells.keys c.args.place other) c.args.m c.at-number.result (c.at-number.ensures.found other) c.self.inside.results c.put.new.self
    (Some (Done c.args.v)) c.in_ok-put.ensures.ok
    )
