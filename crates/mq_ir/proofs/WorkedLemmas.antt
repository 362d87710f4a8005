-- The worked results are what the definitions compute to.
use Rattle.std.proofs.Common.{refl}
use Rattle.mq_ir.specs.declared.expression.Leaf.TheVariants as leaf
use Rattle.mq_ir.specs.ExpressionLaws.{worth_lit, worth_leaf, worth_sum, worth_prod}
use Rattle.mq_ir.specs.ConditionLaws.{worth_cmp}
use Rattle.mq_ir.specs.TestLaws.{test_laws}
use Rattle.mq_ir.specs.LeavesLaws.{leaves_laws}
use Rattle.mq_ir.specs.Looks.{looks_of}
use Rattle.mq_ir.specs.Sequential.{left_step, left_fault, order_missing}
use Rattle.mq_ir.specs.Automatic.{automatic, cycle_in, first_fault, own_fault, slot_cell, slots_in, node_looks, node_step, levelled_shape, shape_found, slot_cells}
use Rattle.mq_ir.specs.Iteration.{until_holds}
use Rattle.mq_ir.specs.Reads.{right_value, range_value, range_named}
use Rattle.mq_ir.specs.Slots.{cell_slot}
use Rattle.mq_values.specs.DimTestLaws.{told_laws}
use Rattle.mq_ir.specs.Targets.{targets, targets_in, meets_left, meets_every}
use Rattle.mq_ir.specs.Worked.{CycleAtLeast, HalvedInTurns, OrderMissing, OrderedDownwards, SumOfRange, UpsertedCells}

ruleset steps = (told_laws, targets, targets_in, meets_left, left_step, left_fault, order_missing, looks_of, leaves_laws, test_laws, worth_lit, worth_leaf, worth_sum, worth_prod, worth_cmp, leaf.outs-Cell, leaf.outs-Cv, leaf.outs-Turn, leaf.outs-Range, leaf.outs-Previous)

pub upserted : UpsertedCells
upserted = simp steps refl

pub missing : OrderMissing
missing = simp steps refl

pub downwards : OrderedDownwards
downwards = simp steps refl

pub cycle : CycleAtLeast
cycle = simp (automatic, cycle_in, levelled_shape, shape_found, steps) refl

pub range : SumOfRange
range = simp (automatic, cycle_in, levelled_shape, shape_found, slot_cells, first_fault, own_fault, slot_cell, slots_in, node_looks, node_step, cell_slot, right_value, range_value, range_named, meets_every, steps) refl

pub halved : HalvedInTurns
halved = simp (until_holds, steps) refl
