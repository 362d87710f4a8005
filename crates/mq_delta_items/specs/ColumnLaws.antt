-- The columns of a row, in order, are the row.
use Rattle.std.proofs.Common.{◌≡◌, ℕ, zero, suc, ◌+◌, List, [], ◌∷◌, length, map, get_or, Ok, refl, sym, ap, ◌∙◌, arith}
use Rattle.std.specs.Prelude.{slice_index_or}
use Rattle.std.specs.List.{range_with_len}
use Rattle.mq_values.specs.declared.value.Value.TheVariants.{Null}
use Rattle.mq_ir.specs.declared.expression.Leaf.TheVariants as leaf
use Rattle.mq_ir.specs.BaseRows.{column_at, row_leaves}
use Rattle.mq_ir.specs.Expression.{Outcome, ev}
use Rattle.mq_ir.specs.ExpressionLaws.{worth_leaf}
use Rattle.mq_ir.specs.Items.{items_at}
use Rattle.mq_ir.specs.Keys.{Tuple}
use Rattle.mq_ir.specs.Placed.{kind_of}
use Rattle.mq_ir.specs.Results.{◌>>=◌, each, marked}
use Rattle.mq_ir.specs.Worth.{a_value, as_value}
use Rattle.mq_delta_items.specs.Columns.{column, columns_of}

-- ---- all numbers of a list, in order
taken_from : {A : Type 0} (xs : List A) (d : A) (k n : ℕ) (f : ℕ → A) → length xs ≡ n → ((i : ℕ) → f (k + i) ≡ get_or xs i d)
    → map f (range_with_len k n) ≡ xs
taken_from [] d k zero f e h = refl
taken_from [] d k (suc n) f e h = absurd (cc)
taken_from (x ∷ xs) d k zero f e h = absurd (cc)
taken_from (x ∷ xs) d k (suc n) f e h =
    let here : k + 0 ≡ k = omega arith in
    let first : f k ≡ x = ap f (sym here) ∙ h 0 in
    let rest : map f (range_with_len (k + 1) n) ≡ xs =
    taken_from xs d (k + 1) n f (omega (arith, e)) (λ i. let next : k + 1 + i ≡ k + suc i = omega arith in ap f next ∙ h (suc i)) in
    λ j. first j ∷ rest j

all_numbers : {A : Type 0} (xs : List A) (d : A) → map (λ i. slice_index_or xs i d) (range_with_len 0 (length xs)) ≡ xs
all_numbers xs d =
    taken_from xs d 0 (length xs) (λ i. slice_index_or xs i d) refl
    (λ i. let e : 0 + i ≡ i = omega arith in ap (λ n. slice_index_or xs n d) e)

-- ---- column by column
column_is : (row : Tuple) (i : ℕ) → ev (row_leaves (row ∷ [])) (column i) ≡ Ok (slice_index_or row i Null)
column_is row i = simp (row_leaves, column_at, worth_leaf, leaf.outs-Column, a_value, as_value, ◌>>=◌) refl

columns_are : (row : Tuple) (numbers : List ℕ)
    → each (ev (row_leaves (row ∷ []))) (map column numbers) ≡ Ok (map (λ i. slice_index_or row i Null) numbers)
columns_are row [] = refl
columns_are row (i ∷ numbers) =
    ap (λ (r : Outcome). r >>= (λ v. each (ev (row_leaves (row ∷ []))) (map column numbers) >>= (λ vs. Ok (v ∷ vs)))) (column_is row i)
    ∙ ap (λ r. r >>= (λ vs. Ok (slice_index_or row i Null ∷ vs))) (columns_are row numbers)

-- the items of a row that are its columns, of which it has so many
pub row_is : (row : Tuple) (n : ℕ) → length row ≡ n → items_at (columns_of n) (row_leaves (row ∷ [])) ≡ Ok row
row_is row n e =
    ap (marked kind_of)
    (ap (λ k. each (ev (row_leaves (row ∷ []))) (columns_of k)) (sym e)
    ∙ columns_are row (range_with_len 0 (length row))
    ∙ ap Ok (all_numbers row Null))
