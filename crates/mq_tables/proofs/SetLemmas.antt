-- The columns that are set, one after another.
use Rattle.std.proofs.Common.{◌≡◌, ℕ, ◌+◌, ◌<◌, List, [], ◌∷◌, ◌++◌, length, get_or, Result, Ok, refl, ap, sym, ◌∙◌}
use Rattle.std.specs.Prelude.{slice_set}
use Rattle.std.proofs.lemmas.List.Sums.{fold_push}
use Rattle.mq_values.specs.declared.faults.Refused.{Refused}
use Rattle.mq_values.specs.declared.value.Value.{Value}
use Rattle.mq_ir.specs.declared.expression.Expr.{Expr}
use Rattle.mq_ir.specs.declared.statement.Schema.{Schema}
use Rattle.mq_ir.specs.Changes.{with_values}
use Rattle.mq_ir.specs.Keys.{Tuple}
use Rattle.mq_ir.specs.Results.{◌>>=◌}
use Rattle.mq_tables.specs.Columns.{set_value}
use Rattle.mq_tables.proofs.Walks.{Walked, walk_next}

-- what a SET gives: the column with its value
abbrev pub set_of : Schema → ℕ → Tuple → ℕ × Expr → Result (ℕ × Value) Refused
set_of schema number row set = set_value schema number row set.0 set.1 >>= (λ v. Ok (set.0, v))

set_more : (row : Tuple) (done : List (ℕ × Value)) (c : ℕ) (v : Value) → with_values row (done ++ (c, v) ∷ []) ≡ slice_set (with_values row done) c v
set_more row done c v = fold_push (λ (row : Tuple) (set : ℕ × Value). slice_set row set.0 set.1) row done (c, v)

-- the first i SETs made these values of those of the row
pub record Setting (schema : Schema) (number : ℕ) (row : Tuple) (sets : List (ℕ × Expr)) (i : ℕ) (values : Tuple) : Type 0 where
  pub done : List (ℕ × Value)
  pub walk : Walked (set_of schema number row) sets i done
  pub values_are : values ≡ with_values row done

pub setting_next : (schema : Schema) (number : ℕ) (row : Tuple) (sets : List (ℕ × Expr)) (i : ℕ) (values after : Tuple) (set : ℕ × Expr) (v : Value)
    → i < length sets → set ≡ get_or sets i set → set_value schema number row set.0 set.1 ≡ Ok v → after ≡ slice_set values set.0 v
    → Setting schema number row sets i values → Setting schema number row sets (i + 1) after
setting_next schema number row sets i values after set v h e g a s = record {
  done = s.done ++ (set.0, v) ∷ [];
  walk = walk_next (set_of schema number row) sets i s.done (s.done ++ (set.0, v) ∷ []) set (set.0, v) h e (ap (λ r. r >>= (λ v. Ok (set.0, v))) g) refl s.walk;
  values_are = a ∙ ap (λ l. slice_set l set.0 v) s.values_are ∙ sym (set_more row s.done set.0 v);
}
