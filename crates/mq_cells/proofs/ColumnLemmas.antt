-- What stands in a column after one tuple was put or taken away, and in columns after one of them changed, or an empty one came.
use Rattle.std.proofs.Common.{◌≡◌, ℕ, zero, suc, ◌<◌, ◌==◌, ◌&&◌, Bool, true, false, List, [], ◌∷◌, ◌++◌, length, Option, Some, cond, if◌then◌else◌, slice_get, slice_set, refl, sym, ap, subst, ◌∙◌, arith}
use Rattle.std.specs.Cmp.{unsigned_Decides}
use Rattle.std.specs.Map.{lookup}
use Rattle.std.specs.Option.{option_and_then}
use Rattle.mq_ir.specs.declared.query.Slot.{Slot}
use Rattle.mq_ir.specs.Keys.{Tuple, is_same}
use Rattle.mq_cells.specs.Columns.{ChangesAt, Column, results_in, found_in}
use Rattle.mq_cells.specs.Stores.{DiffersAt, cell_name}

-- the map after differs from the one before at this key alone
pub changed : {X : Type 0} (key : Tuple) (x : Option X) (inside before after : List (Tuple × X)) → inside ≡ before
    → ((q : Tuple) → lookup (is_same q) after ≡ cond (is_same key q) x (lookup (is_same q) inside))
    → ChangesAt before after key x
changed {X} key x inside before after seen h = subst (λ (b : List (Tuple × X)). ChangesAt b after key x) seen h

get_other : {X : Type 0} (xs : List X) (i j : ℕ) (a : X) → (i ≡ j → ⊥) → slice_get (slice_set xs i a) j ≡ slice_get xs j
get_other [] i j a n = refl
get_other (x ∷ xs) zero zero a n = absurd (n refl)
get_other (x ∷ xs) zero (suc j) a n = refl
get_other (x ∷ xs) (suc i) zero a n = refl
get_other (x ∷ xs) (suc i) (suc j) a n = get_other xs i j a (λ e. n (ap suc e))

get_itself : {X : Type 0} (xs : List X) (i : ℕ) (a : X) → i < length xs → slice_get (slice_set xs i a) i ≡ Some a
get_itself [] i a lt = absurd (omega arith)
get_itself (x ∷ xs) zero a lt = refl
get_itself (x ∷ xs) (suc i) a lt = get_itself xs i a (omega arith)

and_true : {A : Type 0} (s : Bool) (x y : A) → (if s && true then x else y) ≡ (if s then x else y)
and_true true x y = refl
and_true false x y = refl

and_false : {A : Type 0} (s : Bool) (x y : A) → (if s && false then x else y) ≡ y
and_false true x y = refl
and_false false x y = refl

-- a column that changed at one tuple makes results that differ there alone
pub differs : (columns : List Column) (m : ℕ) (column after : Column) (key : Tuple) (slot : Option Slot) → m < length columns
    → slice_get columns m ≡ Some column → ChangesAt column after key slot
    → DiffersAt (results_in columns) (results_in (slice_set columns m after)) (cell_name key m) slot
differs columns m column after key slot lt there h c = by (m == c.measure) refl
  where
    by : (b : Bool) → (m == c.measure) ≡ b → results_in (slice_set columns m after) c ≡ (if is_same key c.key && b then slot else results_in columns c)
    by true e =
        let p : m ≡ c.measure = (unsigned_Decides m c.measure).0 e in
        ap (λ n. option_and_then (found_in c.key) (slice_get (slice_set columns m after) n)) (sym p)
        ∙ ap (option_and_then (found_in c.key)) (get_itself columns m after lt) ∙ h c.key
        ∙ ap (λ old. if is_same key c.key then slot else old) (ap (option_and_then (found_in c.key)) (sym there) ∙ ap (λ n. option_and_then (found_in c.key) (slice_get columns n)) p)
        ∙ sym (and_true (is_same key c.key) slot (results_in columns c))
    by false e =
        let n : m ≡ c.measure → ⊥ = λ p. absurd (let q : (m == c.measure) ≡ true = (unsigned_Decides m c.measure).1 p in cc) in
        ap (option_and_then (found_in c.key)) (get_other columns m c.measure after n) ∙ sym (and_false (is_same key c.key) slot (results_in columns c))

-- nothing stands in an empty column
nothing_more : (key : Tuple) (columns : List Column) (m : ℕ)
    → option_and_then (found_in key) (slice_get (columns ++ [] ∷ []) m) ≡ option_and_then (found_in key) (slice_get columns m)
nothing_more key [] zero = refl
nothing_more key [] (suc m) = refl
nothing_more key (x ∷ columns) zero = refl
nothing_more key (x ∷ columns) (suc m) = nothing_more key columns m

pub empty_behind : (columns : List Column) → results_in (columns ++ [] ∷ []) ≡ results_in columns
empty_behind columns = λ i c. nothing_more c.key columns c.measure i
