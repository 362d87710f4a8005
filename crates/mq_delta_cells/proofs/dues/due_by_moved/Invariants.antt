use Rattle.std.proofs.Common.{◌≡◌, ℕ, true, false, take}
use Rattle.mq_ir.specs.declared.query.CellName.{CellName}
use Rattle.mq_delta_cells.specs.Readers.{is_due, may_look}
use Rattle.mq_delta_cells.specs.Seeds.{is_moved}
use Rattle.mq_delta_cells.proofs.dues.due_by_moved.Given as goal

abbrev pub invariant-marking : goal.invariant-marking
invariant-marking l =
    (place : ℕ) → is_due l.due.items place ≡ false → (c : CellName) → is_moved (take l.name-index l.work.seeds.now.moved.now) c ≡ true
    → may_look l.work.course.now.cells l.work.course.now.readers c place ≡ false
