-- The key that a condition asks for.
use Rattle.std.specs.Prelude.{◌≡◌, ℕ, false, ◌∷◌, [], List, Option, Some, Ok, slice_index_or}
use Rattle.mq_values.specs.Truth.{Truth}
use Rattle.mq_values.specs.declared.value.Value.{Value}
use Rattle.mq_values.specs.declared.value.Value.TheVariants.{Null}
use Rattle.mq_ir.specs.declared.expression.Expr.{Expr}
use Rattle.mq_ir.specs.declared.expression.Expr.TheVariants as expr
use Rattle.mq_ir.specs.declared.expression.Leaf.TheVariants as leaf
use Rattle.mq_ir.specs.declared.expression.Worth.TheVariants as worth
use Rattle.mq_ir.specs.declared.statement.Schema.{Schema}
use Rattle.mq_ir.specs.BaseRows.{row_leaves}
use Rattle.mq_ir.specs.Changes.{is_chosen}
use Rattle.mq_ir.specs.Expression.{worth_of}
use Rattle.mq_ir.specs.Keys.{Tuple}
use Rattle.mq_tables.specs.Groups.{IsOtherValue}
use Rattle.mq_tables.specs.Seeking.{IsOther}

-- a row of another key of the same groups is not visited as true, and the visit does not fault
abbrev pub Wants : Option Expr → Schema → Tuple → Type 0
Wants filter schema key = (number : ℕ) (row : Tuple) → IsOther schema key row → is_chosen filter (number, row) ≡ Ok false

-- the same of a row with another value of the same group in a column
abbrev pub IsWanted : Option Expr → ℕ → Value → Type 0
IsWanted filter column wanted = (number : ℕ) (row : Tuple) → IsOtherValue (slice_index_or row column Null) wanted → is_chosen filter (number, row) ≡ Ok false

-- the same of these columns, each with its value
abbrev pub AreWanted : Option Expr → List ℕ → List Value → Type 0
AreWanted filter [] [] = Unit {0}
AreWanted filter [] (v ∷ values) = ⊥
AreWanted filter (c ∷ columns) [] = ⊥
AreWanted filter (c ∷ columns) (v ∷ values) = IsWanted filter c v × AreWanted filter columns values

-- a condition is false of each row with another value of the same group in a column
abbrev pub Refutes : ℕ → Expr → Value → Type 0
Refutes column e wanted =
    (row : Tuple) → IsOtherValue (slice_index_or row column Null) wanted → worth_of (row_leaves (row ∷ [])) e ≡ Ok (worth.Truth (Some false))

-- the one is the column, and the other this value
pub record StandsBeside (a b : Expr) (column : ℕ) (value : Value) : Type 0 where
  pub is_column : a ≡ expr.Leaf (leaf.Column 0 column)
  pub is_value : b ≡ expr.Lit value

-- a condition that comes to true, false or unknown in each row, and an expression that has a value there
abbrev pub NeverFaults : Expr → Type 0
NeverFaults e = (row : Tuple) → (t : Truth) × (worth_of (row_leaves (row ∷ [])) e ≡ Ok (worth.Truth t))

abbrev pub HasValue : Expr → Type 0
HasValue e = (row : Tuple) → (v : Value) × (worth_of (row_leaves (row ∷ [])) e ≡ Ok (worth.Value v))
