use Rattle.std.proofs.Common.{sym, ap, ◌∙◌}
use Rattle.std.specs.Prelude.{slice_index_or}
use Rattle.mq_ir.specs.Slots.{done_value}
use Rattle.mq_cells.specs.IndexedStores.{IndexedStore, input_in, keys_in, results_of, slot_by, value_in}
use Rattle.mq_cells.specs.Stores.{cell_name}
use Rattle.mq_cells.proofs.indexed.IndexedCells.lent_at.Goals as goal

pub returns : goal.returns
unfolding keys_in input_in results_of
returns c = λ other.
    c.lent_here.ensures
    ∙ ap (λ number. done_value (slot_by c.self.inside.given c.self.inside.results c.args.m number)) (sym (c.at.ensures.found other))
    ∙ ap (λ (s : IndexedStore). value_in s (cell_name (slice_index_or (keys_in s) c.args.place other) c.args.m)) c.self.view_is
