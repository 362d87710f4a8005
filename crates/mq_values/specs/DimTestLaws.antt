-- What a test says of a value, case by case.
use Rattle.std.specs.Prelude.{◌≡◌, true, List, Some, map}
use Rattle.std.specs.Ordering.{is_eq}
use Rattle.std.proofs.Common.{sym, ap, ◌∙◌}
use Rattle.mq_values.specs.DimTests.{told, layer_truth, is_among, is_null, all_hold, any_holds}
use Rattle.mq_values.specs.Order.{cmp_value}
use Rattle.mq_values.specs.Truth.{Truth, opposite, both, comparison}
use Rattle.mq_values.specs.declared.operators.CmpOp.{CmpOp}
use Rattle.mq_values.specs.declared.operators.CmpOp.TheVariants.{Le, Ge}
use Rattle.mq_values.specs.declared.operators.DimTest.{DimTest, fold-roll-DimTest}
use Rattle.mq_values.specs.declared.operators.DimTest.TheOpen as layer
use Rattle.mq_values.specs.declared.operators.DimTest.TheVariants as test
use Rattle.mq_values.specs.declared.value.Value.{Value}

-- ANY holds of each value
pub told_any : (v : Value) → told v test.Any ≡ Some true
unfolding told
told_any v = ap (told v) (sym test.rolls-Any) ∙ fold-roll-DimTest Truth (layer_truth v) layer.Any

-- a named value is met by identity
pub told_at : (v : Value) (w : Value) → told v (test.At w) ≡ Some (is_eq (cmp_value v w))
unfolding told
told_at v w = ap (told v) (sym (test.rolls-At w)) ∙ fold-roll-DimTest Truth (layer_truth v) (layer.At w)

-- a comparison
pub told_cmp : (v : Value) (op : CmpOp) (w : Value) → told v (test.Cmp op w) ≡ comparison op v w
unfolding told
told_cmp v op w = ap (told v) (sym (test.rolls-Cmp op w)) ∙ fold-roll-DimTest Truth (layer_truth v) (layer.Cmp op w)

-- v >= low AND v <= high
pub told_between : (v : Value) (low : Value) (high : Value) → told v (test.Between low high) ≡ both (comparison Ge v low) (comparison Le v high)
unfolding told
told_between v low high = ap (told v) (sym (test.rolls-Between low high)) ∙ fold-roll-DimTest Truth (layer_truth v) (layer.Between low high)

-- a list of values
pub told_in : (v : Value) (ws : List Value) → told v (test.In ws) ≡ is_among v ws
unfolding told
told_in v ws = ap (told v) (sym (test.rolls-In ws)) ∙ fold-roll-DimTest Truth (layer_truth v) (layer.In ws)

-- IS NULL
pub told_null : (v : Value) → told v test.Null ≡ Some (is_null v)
unfolding told
told_null v = ap (told v) (sym test.rolls-Null) ∙ fold-roll-DimTest Truth (layer_truth v) layer.Null

-- all of these tests
pub told_and : (v : Value) (ts : List DimTest) → told v (test.And ts) ≡ all_hold (map (told v) ts)
unfolding told
told_and v ts = ap (told v) (sym (test.rolls-And ts)) ∙ fold-roll-DimTest Truth (layer_truth v) (layer.And ts)

-- one of these tests
pub told_or : (v : Value) (ts : List DimTest) → told v (test.Or ts) ≡ any_holds (map (told v) ts)
unfolding told
told_or v ts = ap (told v) (sym (test.rolls-Or ts)) ∙ fold-roll-DimTest Truth (layer_truth v) (layer.Or ts)

-- the opposite of a test
pub told_not : (v : Value) (t : DimTest) → told v (test.Not t) ≡ opposite (told v t)
unfolding told
told_not v t = ap (told v) (sym (test.rolls-Not t)) ∙ fold-roll-DimTest Truth (layer_truth v) (layer.Not t)

-- all cases together
pub ruleset told_laws = (told_any, told_at, told_cmp, told_between, told_in, told_null, told_and, told_or, told_not)
