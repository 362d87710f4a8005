use Rattle.std.proofs.Common.{ap, ◌∙◌}
use Rattle.std.proofs.lemmas.Result.{IfOk-weaker}
use Rattle.mq_cells.specs.IndexedStores.{IndexedStore, input_in, keys_in, results_of, slot_by, slots_in}
use Rattle.mq_cells.specs.Numberings.{number_of}
use Rattle.mq_cells.specs.Stores.{cell_name}
use Rattle.mq_cells.proofs.indexed.IndexedCellsCells.get.Goals as goal

pub returns-clause-slot : goal.returns-clause-slot
unfolding keys_in input_in results_of
returns-clause-slot c =
    let found = c.find-number.ensures.found ∙ ap (number_of c.self.inside.cells) c.as_slice.ensures in
    IfOk-weaker c.slot_by.result _ _
    (λ slot e. e ∙ ap (slot_by c.self.inside.given c.self.inside.results c.args.m) found ∙ ap (λ (s : IndexedStore). slots_in s (cell_name c.args.key.now c.args.m)) c.self.view_is)
    c.slot_by.ensures
