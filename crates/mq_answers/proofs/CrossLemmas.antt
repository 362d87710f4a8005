-- Which models may be shared by threads: an expression by its parts, and then all that holds expressions.
use Rattle.std.proofs.Common.{◌≡◌, ℕ, subst}
use base.Fml.{Fml, Lft}
use denote.RattleType.{RattleType}
use denote.Ref.{NamedLft}
use denote.Param.Send.{Common, IsSend, IsSync, sendable}
use denote.Param.SendFields.{declared_sync, variants_sync}
use denote.Struct.Declared as S
use denote.Enum.Declared as E
use denote.Hole.Fix.{holes}
use denote.Hole.FixSend.{Syncs, fix_sync}
use Rattle.std.proofs.Crossing.{crosses}
use Rattle.std.proofs.option.Option.TheSendSync as option
use Rattle.std.proofs.result.Result.TheSendSync as results
use Rattle.mq_values.proofs.boxed.Boxed.TheSendSync as boxed
use Rattle.mq_values.proofs.items.Items.TheSendSync as items
use Rattle.mq_values.proofs.key.Key.TheSendSync as key
use Rattle.mq_values.proofs.operators.Agg.TheSendSync as agg
use Rattle.mq_values.proofs.operators.CmpOp.TheSendSync as cmp
use Rattle.mq_values.proofs.operators.Func.TheSendSync as func
use Rattle.mq_values.proofs.operators.Mode.TheSendSync as mode
use Rattle.mq_values.proofs.operators.ProdOp.TheSendSync as prod
use Rattle.mq_values.proofs.operators.SumOp.TheSendSync as sum
use Rattle.mq_values.proofs.value.Kind.TheSendSync as kind
use Rattle.mq_values.proofs.value.Value.TheSendSync as value
use Rattle.mq_values.proofs.words.Words.TheSendSync as words
use Rattle.mq_ir.specs.contracts.expression.Expr as expr
use Rattle.mq_ir.specs.contracts.expression.Expr.TheKnot as knot
use Rattle.mq_ir.specs.contracts.expression.Leaf as leaf
use Rattle.mq_ir.specs.contracts.expression.Test as test
use Rattle.mq_ir.specs.contracts.query.FromPart as from_part
use Rattle.mq_ir.specs.contracts.query.ItemPart as item_part
use Rattle.mq_ir.specs.contracts.query.Iterate as iterate
use Rattle.mq_ir.specs.contracts.query.Left as left
use Rattle.mq_ir.specs.contracts.query.LeftItem as left_item
use Rattle.mq_ir.specs.contracts.query.ListSource as list_source
use Rattle.mq_ir.specs.contracts.query.ModelPart as model_part
use Rattle.mq_ir.specs.contracts.query.PlainPart as plain_part
use Rattle.mq_ir.specs.contracts.query.RefPart as ref_part
use Rattle.mq_ir.specs.contracts.query.Rule as rule
use Rattle.mq_ir.specs.contracts.query.Model as model
use Rattle.mq_ir.proofs.query.ColRef.TheSendSync as col_ref
use Rattle.mq_ir.proofs.query.RefArray.TheSendSync as ref_array
use Rattle.mq_ir.proofs.query.PartInput.TheSendSync as part_input
use Rattle.mq_values.proofs.memory.Memory.TheSendSync as memory
use Rattle.mq_answers.proofs.stretches.Found.TheSendSync as found
use Rattle.mq_answers.specs.contracts.stretches.Stretch as stretch
use Rattle.mq_answers.specs.contracts.kept_stretches.KeptStretch as kept_stretch
use Rattle.mq_kept.proofs.kept_view.KeptPart.TheSendSync as kept_part

ruleset held = (option.the_sync, items.the_sync, boxed.the_sync, value.the_sync, kind.the_sync, agg.the_sync, cmp.the_sync, func.the_sync, mode.the_sync, prod.the_sync, sum.the_sync, words.the_sync, crosses, sendable)

-- each layer of the circle, where its holes may be shared
module _ (h : knot.the_members → RattleType) (all : (i : knot.the_members) → IsSync (h i)) where
  abbrev e : RattleType
  e = h knot.member-Expr

  abbrev l : RattleType
  l = h knot.member-Leaf

  abbrev t : RattleType
  t = h knot.member-Test

  abbrev a : RattleType
  a = h knot.member-BoundArm

  abbrev p : RattleType
  p = h knot.member-BoundProd

  abbrev s : RattleType
  s = h knot.member-BoundSum

  expr_layer : IsSync (E.row (E.declared (knot.type-Expr e e e e e e e e e e e l e s e p e l e a e e e e l e e l l e e)))
  expr_layer =
      let se : IsSync e = all knot.member-Expr in
      let sl : IsSync l = all knot.member-Leaf in
      let st : IsSync t = all knot.member-Test in
      let sa : IsSync a = all knot.member-BoundArm in
      let sp : IsSync p = all knot.member-BoundProd in
      let ss : IsSync s = all knot.member-BoundSum in
      variants_sync (knot.type-Expr e e e e e e e e e e e l e s e p e l e a e e e e l e e l l e e) (search held fits 20000)

  leaf_layer : IsSync (E.row (E.declared (knot.type-Leaf e t e e e e e)))
  leaf_layer =
      let se : IsSync e = all knot.member-Expr in
      let sl : IsSync l = all knot.member-Leaf in
      let st : IsSync t = all knot.member-Test in
      let sa : IsSync a = all knot.member-BoundArm in
      let sp : IsSync p = all knot.member-BoundProd in
      let ss : IsSync s = all knot.member-BoundSum in
      variants_sync (knot.type-Leaf e t e e e e e) (search held fits 20000)

  test_layer : IsSync (E.row (E.declared (knot.type-Test e e e e e t t t)))
  test_layer =
      let se : IsSync e = all knot.member-Expr in
      let sl : IsSync l = all knot.member-Leaf in
      let st : IsSync t = all knot.member-Test in
      let sa : IsSync a = all knot.member-BoundArm in
      let sp : IsSync p = all knot.member-BoundProd in
      let ss : IsSync s = all knot.member-BoundSum in
      variants_sync (knot.type-Test e e e e e t t t) (search held fits 20000)

  arm_layer : IsSync (S.row (knot.type-BoundArm e e))
  arm_layer =
      let se : IsSync e = all knot.member-Expr in
      let sl : IsSync l = all knot.member-Leaf in
      let st : IsSync t = all knot.member-Test in
      let sa : IsSync a = all knot.member-BoundArm in
      let sp : IsSync p = all knot.member-BoundProd in
      let ss : IsSync s = all knot.member-BoundSum in
      declared_sync (knot.type-BoundArm e e) (search held fits 20000)

  bound_prod_layer : IsSync (S.row (knot.type-BoundProd e))
  bound_prod_layer =
      let se : IsSync e = all knot.member-Expr in
      let sl : IsSync l = all knot.member-Leaf in
      let st : IsSync t = all knot.member-Test in
      let sa : IsSync a = all knot.member-BoundArm in
      let sp : IsSync p = all knot.member-BoundProd in
      let ss : IsSync s = all knot.member-BoundSum in
      declared_sync (knot.type-BoundProd e) (search held fits 20000)

  bound_sum_layer : IsSync (S.row (knot.type-BoundSum e))
  bound_sum_layer =
      let se : IsSync e = all knot.member-Expr in
      let sl : IsSync l = all knot.member-Leaf in
      let st : IsSync t = all knot.member-Test in
      let sa : IsSync a = all knot.member-BoundArm in
      let sp : IsSync p = all knot.member-BoundProd in
      let ss : IsSync s = all knot.member-BoundSum in
      declared_sync (knot.type-BoundSum e) (search held fits 20000)

-- and so the holes
holes_sync : (i : knot.the_members) → IsSync (holes knot.ring i)
holes_sync =
    fix_sync knot.ring
    (expr.by_members (Syncs knot.ring)
    (record { sync = expr_layer })
    (record { sync = leaf_layer })
    (record { sync = test_layer })
    (record { sync = arm_layer })
    (record { sync = bound_prod_layer })
    (record { sync = bound_sum_layer }))

-- a type is shared as its hole is
seen : (R H : RattleType) (to : R.Denot → H.Denot) → ((x : R.Denot) → H.shr_at (to x) ≡ R.shr_at x) → IsSync H → IsSync R
seen R H to same sync = record {
  shared = λ x. subst (λ (shr : ℕ → ℕ → Lft → Fml). (b o : ℕ) → Common (shr b o)) (same x) (sync.shared (to x));
}

pub expr_sync : IsSync expr.the_row
expr_sync = seen expr.the_row expr.the_hole (λ x. x) expr.shr_is (holes_sync knot.member-Expr)

pub leaf_sync : IsSync leaf.the_row
leaf_sync = seen leaf.the_row leaf.the_hole (λ x. x) leaf.shr_is (holes_sync knot.member-Leaf)

pub test_sync : IsSync test.the_row
test_sync = seen test.the_row test.the_hole (λ x. x) test.shr_is (holes_sync knot.member-Test)

-- what holds expressions
pub list_source_sync : IsSync list_source.the_row
list_source_sync = variants_sync list_source.enum (search (held, expr_sync) depth 20 fits 20000)

pub left_item_sync : IsSync left_item.the_row
left_item_sync = variants_sync left_item.enum (search (held, expr_sync, test_sync, list_source_sync) depth 20 fits 20000)

pub left_sync : IsSync left.the_row
left_sync = variants_sync left.enum (search (held, left_item_sync, list_source_sync) depth 20 fits 20000)

pub rule_sync : IsSync rule.the_row
rule_sync = declared_sync rule.the_type (search (held, expr_sync, left_sync) depth 20 fits 20000)

pub from_part_sync : IsSync from_part.the_row
from_part_sync = declared_sync from_part.the_type (search (held, expr_sync) depth 20 fits 20000)

pub item_part_sync : IsSync item_part.the_row
item_part_sync = declared_sync item_part.the_type (search (held, expr_sync, col_ref.the_sync) depth 20 fits 20000)

pub plain_part_sync : IsSync plain_part.the_row
plain_part_sync = declared_sync plain_part.the_type (search (from_part_sync, item_part_sync) depth 20 fits 20000)

pub ref_part_sync : IsSync ref_part.the_row
ref_part_sync = declared_sync ref_part.the_type (search (held, expr_sync, plain_part_sync) depth 20 fits 20000)

pub iterate_sync : IsSync iterate.the_row
iterate_sync = declared_sync iterate.the_type (search (held, expr_sync) depth 20 fits 20000)

pub model_part_sync : IsSync model_part.the_row
model_part_sync = declared_sync model_part.the_type (search (held, rule_sync, iterate_sync, ref_part_sync, plain_part_sync) depth 20 fits 20000)

pub model_sync : (κ : NamedLft) → IsSync (model.the_row κ)
model_sync κ = declared_sync (model.the_type κ) (search (held, key.the_sync, model_part_sync, ref_array.the_sync) depth 20 fits 20000)

-- what a stretch owns may be handed to a thread
pub ruleset handed = (results.the_send, items.the_send, part_input.the_send, found.the_send, kept_part.the_send, memory.the_send, model_sync, crosses, sendable)

pub stretch_send : (κ : NamedLft) (R : RattleType) → IsSync R → IsSend (stretch.the_row κ R)
stretch_send κ R sync = search handed depth 30 fits 20000

pub kept_stretch_send : (κ : NamedLft) (R : RattleType) → IsSync R → IsSend (kept_stretch.the_row κ R)
kept_stretch_send κ R sync = search handed depth 30 fits 20000
