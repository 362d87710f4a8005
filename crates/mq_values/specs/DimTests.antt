-- When a value meets a test of one dimension.
use Rattle.std.specs.Prelude.{Bool, true, false, not, List, [], ◌∷◌, Some}
use Rattle.std.specs.Ordering.{is_eq}
use Rattle.mq_values.specs.Order.{cmp_value}
use Rattle.mq_values.specs.Aggregate.{is_value}
use Rattle.mq_values.specs.Truth.{Truth, is_true, opposite, both, either, comparison}
use Rattle.mq_values.specs.declared.operators.CmpOp.TheVariants.{Eq, Le, Ge}
use Rattle.mq_values.specs.declared.operators.DimTest.{DimTest, fold-DimTest}
use Rattle.mq_values.specs.declared.operators.DimTest.TheOpen as layer
use Rattle.mq_values.specs.declared.value.Value.{Value}

-- v is one of these, as IN asks: unknown where null could have made the difference
abbrev pub is_among : Value → List Value → Truth
is_among v [] = Some false
is_among v (w ∷ ws) = either (comparison Eq v w) (is_among v ws)

-- all of these hold
abbrev pub all_hold : List Truth → Truth
all_hold [] = Some true
all_hold (t ∷ ts) = both t (all_hold ts)

-- one of these holds
abbrev pub any_holds : List Truth → Truth
any_holds [] = Some false
any_holds (t ∷ ts) = either t (any_holds ts)

abbrev pub is_null : Value → Bool
is_null v = not (is_value v)

-- one layer of a test, where each test in it stands as what it says of v
abbrev pub layer_truth : Value → layer.DimTest-F Truth → Truth
layer_truth v layer.Any = Some true
layer_truth v (layer.At w) = Some (is_eq (cmp_value v w))
layer_truth v (layer.Cmp op w) = comparison op v w
layer_truth v (layer.Between low high) = both (comparison Ge v low) (comparison Le v high)
layer_truth v (layer.In ws) = is_among v ws
layer_truth v layer.Null = Some (is_null v)
layer_truth v (layer.And ts) = all_hold ts
layer_truth v (layer.Or ts) = any_holds ts
layer_truth v (layer.Not t) = opposite t

-- What a test says of v. ANY holds of each value, also of null. A value that is named is met by identity: null meets null, and 1 does not meet 1.0.
unfoldable pub told : Value → DimTest → Truth
told v = fold-DimTest Truth (layer_truth v)

-- v meets a test where it says so; unknown does not count
abbrev pub meets : Value → DimTest → Bool
meets v t = is_true (told v t)
