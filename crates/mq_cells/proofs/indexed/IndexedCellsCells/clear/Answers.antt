use Rattle.std.proofs.Common.{None, sym, ap, subst, ◌∙◌}
use Rattle.mq_cells.specs.IndexedStores.{IndexedStore, input_in, keys_in, results_of, results_over_numbers}
use Rattle.mq_cells.specs.Numberings.{number_of}
use Rattle.mq_cells.specs.Stores.{DiffersAt, cell_name}
use Rattle.mq_cells.proofs.IndexLemmas.{item_differs, nothing_differs}
use Rattle.mq_cells.proofs.indexed.IndexedCellsCells.clear.Goals as goal

pub returns-in-Some-clause-done : goal.returns-in-Some-clause-done
unfolding keys_in input_in results_of
returns-in-Some-clause-done c =
    let key = c.args.key.now in
    let cells = c.self.inside.cells in
    let found = ap (number_of cells) (sym c.as_slice.ensures) ∙ sym c.in-Some.ensures.found in
    subst (λ (s : IndexedStore). DiffersAt (results_of s) (results_over_numbers cells c.clear.new.self) (cell_name key c.args.m) None) c.self.view_is
    (item_differs cells c.find.ensures.told key c.args.m c.in-Some.number found c.self.inside.results c.clear.new.self None c.clear.ensures)

pub returns-in_default-clause-done : goal.returns-in_default-clause-done
unfolding keys_in input_in results_of
returns-in_default-clause-done c =
    let key = c.args.key.now in
    let cells = c.self.inside.cells in
    let none = ap (number_of cells) (sym c.as_slice.ensures) ∙ sym c.in_default.ensures.found in
    subst (λ (s : IndexedStore). DiffersAt (results_of s) (results_over_numbers cells c.self.inside.results) (cell_name key c.args.m) None) c.self.view_is
    (nothing_differs cells c.find.ensures.told key c.args.m none c.self.inside.results)
