-- Values put into a row one after another, each at its column; and the numbers of all columns.
use Rattle.std.proofs.Common.{◌≡◌, ℕ, zero, suc, ◌+◌, List, [], ◌∷◌, ◌++◌, length, map, Option, Some, None, slice_index_or, slice_set, refl, sym, ap, ◌∙◌}
use Rattle.std.specs.List.{slice_get, zip}
use Rattle.std.specs.Option.{option_map_or, unwrap_or}
use Rattle.std.proofs.lemmas.List.{length_push, map-append}
use Rattle.mq_ir.specs.declared.expression.Expr.{Expr}
use Rattle.mq_ir.specs.declared.statement.Schema.{Schema}
use Rattle.mq_bind_scopes.specs.declared.scopes.Found.{Found}
use Rattle.mq_binder.specs.ChangeWalk.{placed_values, row_with}
use Rattle.mq_binder.specs.RowPlaces.{null_row, put_at}
use Rattle.mq_bind_expr.specs.OperatorNodes.{exprs_of}

-- one more value goes to the column of its place
placed_more : (numbers : List ℕ) (es row : List Expr) (n : ℕ) (e : Expr) → slice_get numbers (length es) ≡ Some n
    → placed_values (zip numbers (es ++ e ∷ [])) row ≡ slice_set (placed_values (zip numbers es) row) n e
placed_more [] es row n e h = absurd cc
placed_more (m ∷ []) [] row n e h = ap (λ (o : Option ℕ). slice_set row (unwrap_or o n) e) h
placed_more (m ∷ k ∷ ms) [] row n e h = ap (λ (o : Option ℕ). slice_set row (unwrap_or o n) e) h
placed_more (m ∷ ms) (f ∷ fs) row n e h = placed_more ms fs (slice_set row m f) n e h

-- behind the last column it goes nowhere
placed_past : (numbers : List ℕ) (es row : List Expr) (e : Expr) → slice_get numbers (length es) ≡ None
    → placed_values (zip numbers (es ++ e ∷ [])) row ≡ placed_values (zip numbers es) row
placed_past [] es row e h = refl
placed_past (m ∷ ms) [] row e h = absurd cc
placed_past (m ∷ ms) (f ∷ fs) row e h = placed_past ms fs (slice_set row m f) e h

exprs_length : (found : List Found) → length (exprs_of found) ≡ length found
exprs_length [] = refl
exprs_length (f ∷ fs) = ap suc (exprs_length fs)

placed_none : (numbers : List ℕ) (row : List Expr) → placed_values (zip numbers []) row ≡ row
placed_none [] row = refl
placed_none (n ∷ ns) row = refl

placed_next : (numbers : List ℕ) (es row : List Expr) (e : Expr) (o : Option ℕ) → slice_get numbers (length es) ≡ o
    → placed_values (zip numbers (es ++ e ∷ [])) row ≡ option_map_or (λ n. slice_set (placed_values (zip numbers es) row) n e) o (placed_values (zip numbers es) row)
placed_next numbers es row e (Some n) h = placed_more numbers es row n e h
placed_next numbers es row e None h = placed_past numbers es row e h

-- the row behind the values that were found so far
pub record Placing (schema : Schema) (numbers : List ℕ) (place : ℕ) (found : List Found) (row : List Expr) : Type 0 where
  pub at : place ≡ length found
  pub is : row ≡ row_with schema numbers (exprs_of found)

pub placing_start : (schema : Schema) (numbers : List ℕ) (row : List Expr) → row ≡ null_row schema → Placing schema numbers 0 [] row
placing_start schema numbers row h = record { at = refl; is = h ∙ sym (placed_none numbers (null_row schema)) }

pub placing_next : (schema : Schema) (numbers : List ℕ) (place : ℕ) (found : List Found) (row after : List Expr) (f : Found)
    → after ≡ put_at numbers place f.e row → Placing schema numbers place found row → Placing schema numbers (place + 1) (found ++ f ∷ []) after
placing_next schema numbers place found row after f h p = record {
  at = ap (λ n. n + 1) p.at ∙ sym (length_push found f);
  is =
      h
      ∙ ap (λ l. put_at numbers place f.e l) p.is
      ∙ ap (λ k. put_at numbers k f.e (row_with schema numbers (exprs_of found))) (p.at ∙ sym (exprs_length found))
      ∙ sym (placed_next numbers (exprs_of found) (null_row schema) f.e (slice_get numbers (length (exprs_of found))) refl)
      ∙ ap (λ l. row_with schema numbers l) (sym (map-append (λ (f : Found). f.e) found (f ∷ [])));
}

pub placing_end : (schema : Schema) (numbers : List ℕ) (place : ℕ) (found all : List Found) (row : List Expr)
    → found ≡ all → Placing schema numbers place found row → row ≡ row_with schema numbers (exprs_of all)
placing_end schema numbers place found all row h p = p.is ∙ ap (λ l. row_with schema numbers (exprs_of l)) h

-- ---- behind the last column none is read
pub missing_is : {A B : Type 0} (f : A → B) (xs : List A) (n : ℕ) (d : B) → slice_get xs n ≡ None → slice_index_or (map f xs) n d ≡ d
missing_is f [] n d h = refl
missing_is f (x ∷ xs) zero d h = absurd cc
missing_is f (x ∷ xs) (suc n) d h = missing_is f xs n d h
