-- A reference row by row, with its faults marked, is the reference of the definitions.
use Rattle.std.proofs.Common.{◌≡◌, ℕ, suc, List, [], ◌∷◌, ◌++◌, length, map, take, drop, Option, Some, None, Bool, true, false, Result, Ok, Err, refl, sym, ap, ◌∙◌}
use Rattle.std.specs.Prelude.{nat_lt, if◌then◌else◌}
use Rattle.std.specs.Option.{option_map_or}
use Rattle.mq_values.specs.Answers.{Gives, result_map}
use Rattle.mq_values.specs.declared.faults.FaultKind.TheVariants as kind
use Rattle.mq_values.specs.declared.faults.QueryFault.{QueryFault}
use Rattle.mq_values.specs.declared.limits.TheConstants.{MAX_CELLS_OF_REFERENCE}
use Rattle.mq_values.specs.declared.memory.Fail.{Fail}
use Rattle.mq_values.specs.declared.memory.Fail.TheVariants as fail
use Rattle.mq_ir.specs.declared.query.RefArray.{RefArray}
use Rattle.mq_ir.specs.declared.query.RefPart.{RefPart}
use Rattle.mq_ir.specs.Answer.{plain_fault}
use Rattle.mq_ir.specs.Expression.{ev}
use Rattle.mq_ir.specs.Items.{row_leaves}
use Rattle.mq_ir.specs.Keys.{Tuple}
use Rattle.mq_ir.specs.Partitions.{Cells, cells_of, cut, repeated}
use Rattle.mq_ir.specs.Placed.{Placed, at_partition, kind_of, placed_fault}
use Rattle.mq_ir.specs.References.{reference_array, reference_of, reference_row}
use Rattle.mq_ir.specs.Results.{◌>>=◌, each, marked}
use Rattle.mq_refmodel.specs.Arrays.{array_of, row_found, values_found}

-- ---- one row
abbrev pair : {B : Type 0} → List B → List B → List B × List B
pair a b = (a, b)

abbrev halves : {B : Type 0} → ℕ → List B → List B × List B
halves n vs = (take n vs, drop n vs)

-- what is made of as many values as there are items, and of others behind them
module _ {A B C E : Type 0} (f : A → Result B E) where
  cut_front : (xs : List A) (rest : Result (List B) E) (h : List B → List B → C)
      → (each f xs >>= (λ a. rest >>= (λ b. Ok (h (take (length xs) (a ++ b)) (drop (length xs) (a ++ b)))))) ≡ (each f xs >>= (λ a. rest >>= (λ b. Ok (h a b))))
  cut_front [] (Ok b) h = refl
  cut_front [] (Err e) h = refl
  cut_front (x ∷ xs) rest h = by (f x) (each f xs) (cut_front xs rest)
    where
      by : (r : Result B E) (s : Result (List B) E)
          → ((h : List B → List B → C) → (s >>= (λ a. rest >>= (λ b. Ok (h (take (length xs) (a ++ b)) (drop (length xs) (a ++ b)))))) ≡ (s >>= (λ a. rest >>= (λ b. Ok (h a b)))))
          → ((r >>= (λ y. s >>= (λ ys. Ok (y ∷ ys)))) >>= (λ a. rest >>= (λ b. Ok (h (take (suc (length xs)) (a ++ b)) (drop (suc (length xs)) (a ++ b))))))
          ≡ ((r >>= (λ y. s >>= (λ ys. Ok (y ∷ ys)))) >>= (λ a. rest >>= (λ b. Ok (h a b))))
      by (Ok y) (Ok ys) g = g (λ a b. h (y ∷ a) b)
      by (Ok y) (Err e) g = refl
      by (Err e) s g = refl

-- the values of one list of expressions behind those of another
module _ {A B E : Type 0} (f : A → Result B E) where
  behind : (xs ys : List A) → each f (xs ++ ys) ≡ (each f xs >>= (λ a. each f ys >>= (λ b. Ok (a ++ b))))
  behind [] ys = by (each f ys)
    where
      by : (r : Result (List B) E) → r ≡ (r >>= (λ b. Ok b))
      by (Ok b) = refl
      by (Err e) = refl
  behind (x ∷ xs) ys = ap (λ r. f x >>= (λ y. r >>= (λ ys. Ok (y ∷ ys)))) (behind xs ys) ∙ by (f x) (each f xs) (each f ys)
    where
      by : (r : Result B E) (s t : Result (List B) E) → (r >>= (λ y. (s >>= (λ a. t >>= (λ b. Ok (a ++ b)))) >>= (λ ys. Ok (y ∷ ys)))) ≡ ((r >>= (λ y. s >>= (λ ys. Ok (y ∷ ys)))) >>= (λ a. t >>= (λ b. Ok (a ++ b))))
      by (Ok y) (Ok a) (Ok b) = refl
      by (Ok y) (Ok a) (Err e) = refl
      by (Ok y) (Err e) t = refl
      by (Err e) s t = refl

  cut_after : (n : ℕ) (r s : Result (List B) E) → ((r >>= (λ a. s >>= (λ b. Ok (a ++ b)))) >>= (λ vs. Ok (halves n vs))) ≡ (r >>= (λ a. s >>= (λ b. Ok (halves n (a ++ b)))))
  cut_after n (Ok a) (Ok b) = refl
  cut_after n (Ok a) (Err e) = refl
  cut_after n (Err e) s = refl

  both : (xs ys : List A) → (each f (xs ++ ys) >>= (λ vs. Ok (halves (length xs) vs))) ≡ (each f xs >>= (λ a. each f ys >>= (λ b. Ok (pair a b))))
  both xs ys =
      ap (λ r. r >>= (λ vs. Ok (halves (length xs) vs))) (behind xs ys)
      ∙ cut_after (length xs) (each f xs) (each f ys)
      ∙ cut_front f xs (each f ys) pair

marks : {A B E F G H : Type 0} (m : E → F) (k : F → G) (j : G → H) (g : A → B) (r : Result A E)
    → marked j (marked k (marked m r) >>= (λ x. Ok (g x))) ≡ marked (λ e. j (k (m e))) (r >>= (λ x. Ok (g x)))
marks m k j g (Ok x) = refl
marks m k j g (Err e) = refl

row_is : (part : RefPart) (row : Tuple) → marked (at_partition []) (reference_row part row) ≡ row_found part row
row_is part row =
    marks kind_of (placed_fault 0 []) (at_partition []) (cut (length part.dims)) (each (ev (row_leaves (row ∷ []))) (part.dims ++ part.measures))
    ∙ ap (marked (λ fault. plain_fault 0 (kind_of fault))) (both (ev (row_leaves (row ∷ []))) part.dims part.measures)

-- ---- all rows
mark_step : {B E F : Type 0} (mark : E → F) (r : Result B E) (rest : Result (List B) E)
    → marked mark (r >>= (λ y. rest >>= (λ ys. Ok (y ∷ ys)))) ≡ (marked mark r >>= (λ y. marked mark rest >>= (λ ys. Ok (y ∷ ys))))
mark_step mark (Ok y) (Ok ys) = refl
mark_step mark (Ok y) (Err fault) = refl
mark_step mark (Err fault) rest = refl

rows_are : (part : RefPart) (rows : List Tuple) → marked (at_partition []) (each (reference_row part) rows) ≡ each (row_found part) rows
rows_are part [] = refl
rows_are part (row ∷ rows) =
    mark_step (at_partition []) (reference_row part row) (each (reference_row part) rows)
    ∙ (λ i. row_is part row i >>= (λ y. rows_are part rows i >>= (λ ys. Ok (y ∷ ys))))

mark_then : {A B E F : Type 0} (mark : E → F) (f : A → Result B E) (r : Result A E) → marked mark (r >>= f) ≡ (marked mark r >>= (λ x. marked mark (f x)))
mark_then mark f (Ok x) = refl
mark_then mark f (Err e) = refl

-- what the rows come to
abbrev pub array_made : List (Tuple × Tuple) → Result RefArray QueryFault
array_made rows = result_map (λ cells. record { cells = cells }) (marked (at_partition []) (reference_array rows))

map_then : {A B C E : Type 0} (h : B → C) (f : A → Result B E) (r : Result A E) → result_map h (r >>= f) ≡ (r >>= (λ x. result_map h (f x)))
map_then h f (Ok x) = refl
map_then h f (Err e) = refl

pub array_is : (part : RefPart) (items : List Tuple) → array_of part items ≡ (each (row_found part) items >>= array_made)
array_is part items =
    ap (result_map (λ cells. record { cells = cells }))
    (mark_then (at_partition []) reference_array (each (reference_row part) items)
    ∙ ap (λ r. r >>= (λ rows. marked (at_partition []) (reference_array rows))) (rows_are part items))
    ∙ map_then (λ cells. record { cells = cells }) (λ rows. marked (at_partition []) (reference_array rows)) (each (row_found part) items)

-- ---- what is judged of the rows
abbrev judged : List (Tuple × Tuple) → Option Tuple → Bool → Result RefArray QueryFault
judged rows o b =
    result_map (λ cells. record { cells = cells })
    (marked (at_partition [])
    (option_map_or (λ key. Err (placed_fault 0 key kind.NotUnique)) o (if b then Err (placed_fault 0 [] kind.TooManyCells) else Ok (cells_of rows))))

pub not_unique : (rows : List (Tuple × Tuple)) (key : Tuple) → repeated (map (λ row. row.0) rows) ≡ Some key → array_made rows ≡ Err (at_partition [] (placed_fault 0 key kind.NotUnique))
not_unique rows key h = ap (λ o. judged rows o (nat_lt MAX_CELLS_OF_REFERENCE (length rows))) h

pub too_many : (rows : List (Tuple × Tuple)) → repeated (map (λ row. row.0) rows) ≡ None → nat_lt MAX_CELLS_OF_REFERENCE (length rows) ≡ true → array_made rows ≡ Err (at_partition [] (placed_fault 0 [] kind.TooManyCells))
too_many rows h g = λ i. judged rows (h i) (g i)

pub made : (rows : List (Tuple × Tuple)) → repeated (map (λ row. row.0) rows) ≡ None → nat_lt MAX_CELLS_OF_REFERENCE (length rows) ≡ false → array_made rows ≡ Ok (record { cells = cells_of rows })
made rows h g = λ i. judged rows (h i) (g i)

-- where the rows fault, the array does
pub rows_exit : (part : RefPart) (items : List Tuple) (e : Fail QueryFault) → Gives {T = List (Tuple × Tuple)} (Err e) (each (row_found part) items) → Gives {T = RefArray} (Err e) (array_of part items)
rows_exit part items (fail.Cause fault) h = array_is part items ∙ ap (λ r. r >>= array_made) h
rows_exit part items fail.Memory h = tt

-- where they do not, what they are made into is the array
pub rows_made : (part : RefPart) (items : List Tuple) (rows : List (Tuple × Tuple)) → each (row_found part) items ≡ Ok rows → array_of part items ≡ array_made rows
rows_made part items rows h = array_is part items ∙ ap (λ r. r >>= array_made) h
