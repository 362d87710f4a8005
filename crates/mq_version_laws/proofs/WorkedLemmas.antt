-- The worked versions are what the definitions compute to.
use Rattle.std.proofs.Common.{refl}
use Rattle.mq_values.specs.DimTestLaws.{told_laws}
use Rattle.mq_ir.specs.declared.expression.Leaf.TheVariants as leaf
use Rattle.mq_ir.specs.ConditionLaws.{worth_cmp}
use Rattle.mq_ir.specs.ExpressionLaws.{worth_lit, worth_leaf, worth_sum, worth_prod}
use Rattle.mq_ir.specs.LeavesLaws.{leaves_laws}
use Rattle.mq_ir.specs.Looks.{looks_of}
use Rattle.mq_ir.specs.Reads.{right_value}
use Rattle.mq_ir.specs.Sequential.{left_fault, order_missing}
use Rattle.mq_ir.specs.Slots.{cell_slot}
use Rattle.mq_ir.specs.Targets.{targets, targets_in, meets_left}
use Rattle.mq_ir.specs.TestLaws.{test_laws}
use Rattle.mq_version_laws.specs.WorkedVersions.{AffectedLooksOfSums, AffectedOfSums, LooksOfSums, SlotsOfSums, VersionsOfSums}

ruleset steps = (told_laws, targets, targets_in, meets_left, left_fault, order_missing, cell_slot, right_value, looks_of, leaves_laws, test_laws, worth_lit, worth_leaf, worth_sum, worth_prod, worth_cmp, leaf.outs-Cell, leaf.outs-Cv, leaf.outs-Turn)

pub versions_of_sums : VersionsOfSums
versions_of_sums = simp steps refl

pub looks_of_sums : LooksOfSums
looks_of_sums = simp steps refl

pub slots_of_sums : SlotsOfSums
slots_of_sums = simp steps refl

pub affected_of_sums : AffectedOfSums
affected_of_sums = simp steps refl

pub affected_looks_of_sums : AffectedLooksOfSums
affected_looks_of_sums = simp steps refl
