use Rattle.std.proofs.Common.{ap, ◌∙◌}
use Rattle.std.specs.Option.{option_map}
use Rattle.mq_ir.specs.declared.query.CellName.{CellName}
use Rattle.mq_ir.specs.declared.query.Slot.{Slot}
use Rattle.mq_cells.specs.Stores.{cell_name, is_named}
use Rattle.mq_cells.proofs.LookedLemmas.{found_entry}
use Rattle.mq_cells.proofs.looked.slot_among.Goals as goal

pub returns-in-Some : goal.returns-in-Some
returns-in-Some c =
    ap (option_map (λ (e : CellName × Slot). e.1)) c.in-Some.ensures
    ∙ found_entry (is_named (cell_name c.args.key.now c.args.m)) c.args.results.now

pub returns-in-None : goal.returns-in-None
returns-in-None c =
    ap (option_map (λ (e : CellName × Slot). e.1)) c.in-None.ensures
    ∙ found_entry (is_named (cell_name c.args.key.now c.args.m)) c.args.results.now
