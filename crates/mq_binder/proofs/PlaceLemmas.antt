-- Places of brackets: the tests and indices that they are bound to fit.
use Rattle.std.proofs.Common.{◌≡◌, Bool, true, false, not, Option, Some, None, Result, Ok, Err, refl, sym, ap, ◌∙◌, subst}
use Rattle.std.specs.Prelude.{if◌then◌else◌}
use Rattle.std.specs.List.{list_all}
use Rattle.std.specs.Option.{option_map_or}
use Rattle.mq_values.specs.declared.faults.Refused.{Refused}
use Rattle.mq_values.specs.declared.operators.CmpOp.{CmpOp}
use Rattle.mq_values.specs.declared.operators.CmpOp.TheVariants as cmp
use Rattle.mq_values.specs.declared.value.Value.TheVariants as value
use Rattle.mq_ast.specs.declared.expressions.E.{E}
use Rattle.mq_ir.specs.declared.expression.BoundArm.{BoundArm}
use Rattle.mq_ir.specs.declared.expression.BoundProd.{BoundProd}
use Rattle.mq_ir.specs.declared.expression.BoundSum.{BoundSum}
use Rattle.mq_ir.specs.declared.expression.Expr.{Expr}
use Rattle.mq_ir.specs.declared.expression.Expr.TheOpen as layer
use Rattle.mq_ir.specs.declared.expression.Expr.TheVariants as expr
use Rattle.mq_ir.specs.declared.expression.Leaf.{Leaf}
use Rattle.mq_ir.specs.declared.expression.Test.{Test, out-Test, roll-Test, roll-out-Test}
use Rattle.mq_ir.specs.declared.expression.Test.TheVariants as test
use Rattle.mq_ir.specs.FitsExpression.{Scope, expression_fits, is_inner, test_fits}
use Rattle.mq_ir.specs.LeavesLaws.{leaves_lit}
use Rattle.mq_ir.specs.Looks.{leaves_of}
use Rattle.mq_bind_scopes.specs.declared.kinds.ExprKind.{ExprKind}
use Rattle.mq_bind_scopes.specs.declared.misuse_numbers.TheConstants.{MISUSE_OF_CONDITION_IN_BRACKETS, MISUSE_OF_CONDITION_IN_CELL}
use Rattle.mq_bind_scopes.specs.declared.scopes.Found.{Found}
use Rattle.mq_bind_scopes.specs.declared.scopes.Placed.{Placed}
use Rattle.mq_bind_expr.specs.Dimensions.{is_dimension}
use Rattle.mq_bind_expr.specs.Forms.{is_any_form, is_condition}
use Rattle.mq_bind_expr.specs.PlaceTests.{any_place, condition_place, fits_dimension, index_equal, index_of, no_index, no_test, place_of, placed, test_of, value_place}
use Rattle.mq_bind_scopes.specs.Refusals.{kind_mismatch, misuse}
use Rattle.mq_binder.proofs.FitsLemmas.{any_fits, at_fits, cmp_fits, fits_lit, flat_fit}
use Rattle.mq_binder.proofs.OperandLemmas.{FoundFits}
use Rattle.mq_binder.proofs.SoundLemmas.{flat_of}
use Rattle.mq_binder.proofs.FitStepLemmas.{both, ok_is, passed}

never : {A P : Type 0} (e : Refused) (x : A) → ◌≡◌ {A = Result A Refused} (Err e) (Ok x) → P
never e x h = absurd cc

module _ (s : Scope) where
  abbrev TestIs : Placed → Type 0
  TestIs p = test_fits s p.test ≡ true

  any_place_fits : (b : Bool) (p : Placed) → ◌≡◌ {A = Result Placed Refused} (if b then Ok (placed test.Any None) else no_test) (Ok p) → TestIs p
  any_place_fits true p h = subst TestIs (ok_is (placed test.Any None) p h) (any_fits s)
  any_place_fits false p h = never (misuse MISUSE_OF_CONDITION_IN_BRACKETS) p h

  condition_fits : (o : Option Test) (f : Found) (p : Placed) → test_of f.e ≡ o → option_map_or (λ t. Ok (placed t f.equated)) o no_test ≡ Ok p → FoundFits s true true f → TestIs p
  condition_fits None f p e h k = never (misuse MISUSE_OF_CONDITION_IN_BRACKETS) p h
  condition_fits (Some t) f p e h k = subst TestIs (ok_is (placed t f.equated) p h) (k.fine.tests refl t e)

  value_fits : (dim : Option ExprKind) (f : Found) (p : Placed) → value_place dim f ≡ Ok p → FoundFits s false true f → TestIs p
  value_fits dim f p h k =
      let g = passed (not (fits_dimension dim f.kind)) kind_mismatch (Ok (placed (test.At f.e) None)) p h in
      subst TestIs (ok_is (placed (test.At f.e) None) p g.after) (at_fits s f.e ∙ flat_of s false true f.e k.fine refl refl)

  by_form : (any condition : Bool) (dim : Option ExprKind) (f : Found) (p : Placed) → (if any then any_place f else if condition then condition_place f else value_place dim f) ≡ Ok p → FoundFits s condition true f → TestIs p
  by_form true condition dim f p h k = any_place_fits (is_dimension f.e) p h
  by_form false true dim f p h k = condition_fits (test_of f.e) f p refl h k
  by_form false false dim f p h k = value_fits dim f p h k

  pub place_fits : (dim : Option ExprKind) (tree : E) (f : Found) (p : Placed) → place_of dim tree f ≡ Ok p → FoundFits s (is_condition tree) true f → TestIs p
  place_fits dim tree f p h k = by_form (is_any_form tree) (is_condition tree) dim f p h k

  -- ---- indices
  abbrev index_by : Bool → Option ExprKind → Option ExprKind → layer.Test-F Expr Leaf Test BoundArm BoundProd BoundSum → Result Expr Refused
  index_by left dim equated t = elim t [
    | layer.At e ↦ Ok e
    | layer.«Test::Cmp» op e ↦ index_equal left dim op e equated
    | _ ↦ no_index left
  ]

  abbrev FlatIs : Expr → Type 0
  FlatIs x = flat_fit s x ≡ true

  null_is_flat : FlatIs (expr.Lit value.Null)
  null_is_flat = both (expression_fits s (expr.Lit value.Null)) (list_all is_inner (leaves_of (expr.Lit value.Null))) (fits_lit s value.Null) (ap (list_all is_inner) (leaves_lit value.Null))

  unseen_is : (left : Bool) (x : Expr) → no_index left ≡ Ok x → FlatIs x
  unseen_is true x h = subst FlatIs (ok_is (expr.Lit value.Null) x h) null_is_flat
  unseen_is false x h = never (misuse MISUSE_OF_CONDITION_IN_CELL) x h

  equal_is : (left : Bool) (dim : Option ExprKind) (op : CmpOp) (e x : Expr) (equated : Option ExprKind) → index_equal left dim op e equated ≡ Ok x → FlatIs e → FlatIs x
  equal_is left dim cmp.Eq e x equated h k = subst FlatIs (ok_is e x (passed (not (option_map_or (fits_dimension dim) equated true)) kind_mismatch (Ok e) x h).after) k
  equal_is left dim _ e x equated h k = unseen_is left x h

  index_at : (left : Bool) (dim equated : Option ExprKind) (t : layer.Test-F Expr Leaf Test BoundArm BoundProd BoundSum) (x : Expr) → index_by left dim equated t ≡ Ok x → test_fits s (roll-Test t) ≡ true → FlatIs x
  index_at left dim equated (layer.At e) x h k =
      subst FlatIs (ok_is e x h) (sym (at_fits s e) ∙ ap (test_fits s) (sym (test.rolls-At e)) ∙ k)
  index_at left dim equated (layer.«Test::Cmp» op e) x h k =
      equal_is left dim op e x equated h (sym (cmp_fits s op e) ∙ ap (test_fits s) (sym (test.rolls-Cmp op e)) ∙ k)
  index_at left dim equated _ x h k = unseen_is left x h

  pub index_fits : (left : Bool) (dim : Option ExprKind) (p : Placed) (x : Expr) → index_of left dim p ≡ Ok x → TestIs p → FlatIs x
  index_fits left dim p x h k = index_at left dim p.equated (out-Test p.test) x h (ap (test_fits s) (roll-out-Test p.test) ∙ k)
