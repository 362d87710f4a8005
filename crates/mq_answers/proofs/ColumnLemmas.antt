-- Columns that a row lends, as values.
use Rattle.std.proofs.Common.{◌≡◌, ℕ, Bool, true, false, Option, unwrap_or, ap, ◌∙◌}
use Rattle.std.specs.Prelude.{slice_get, slice_index_or}
use Rattle.std.proofs.lemmas.Option.{unwrap_or-slice_get}
use Rattle.mq_values.specs.Order.{cmp_value}
use Rattle.mq_values.specs.declared.value.Value.{Value}
use Rattle.mq_values.specs.declared.value.Value.TheVariants.{Null}
use Rattle.mq_ir.specs.Partitions.{Tuple}
use Rattle.mq_ir.specs.Printing.{cmp_column}

-- a column that is not there is null
pub column_or : (row : Tuple) (n : ℕ) (found : Option Value) → found ≡ slice_get row n → unwrap_or found Null ≡ slice_index_or row n Null
column_or row n found e = ap (λ (o : Option Value). unwrap_or o Null) e ∙ unwrap_or-slice_get row n Null

pub column_ascends : (n : ℕ) (descending : Bool) (a b : Tuple) (x y : Option Value) → descending ≡ false → x ≡ slice_get a n → y ≡ slice_get b n
    → cmp_value (unwrap_or x Null) (unwrap_or y Null) ≡ cmp_column (n, descending) a b
column_ascends n false a b x y h e f = λ i. cmp_value (column_or a n x e i) (column_or b n y f i)
column_ascends n true a b x y h e f = cc

pub column_descends : (n : ℕ) (descending : Bool) (a b : Tuple) (x y : Option Value) → descending ≡ true → x ≡ slice_get a n → y ≡ slice_get b n
    → cmp_value (unwrap_or y Null) (unwrap_or x Null) ≡ cmp_column (n, descending) a b
column_descends n true a b x y h e f = λ i. cmp_value (column_or b n y f i) (column_or a n x e i)
column_descends n false a b x y h e f = cc
