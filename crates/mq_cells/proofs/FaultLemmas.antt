-- The least of assignments, one more at a time from the last on.
use Rattle.std.proofs.Common.{◌≡◌, ℕ, ◌+◌, ◌<◌, Bool, true, false, List, [], ◌∷◌, length, get_or, drop, Option, Some, if◌then◌else◌, slice_get, refl, sym, ap, ◌∙◌}
use Rattle.std.specs.Ordering.{is_gt, on}
use Rattle.std.specs.declared.cmp.Ordering.{Ordering}
use Rattle.mq_ir.specs.Partitions.{ascending, placed}
use Rattle.mq_ir.specs.Shape.{Assignment, cmp_by_rule, least_of}
use Rattle.mq_cells.specs.Faults.{least_with, sooner_of}
use Rattle.mq_cells.specs.Stores.{Results, faulted_from, is_faulted, name_assigned}
use Rattle.mq_cells.proofs.PlaceLemmas.{from_place}

-- by rule, then cell
abbrev pub by_number : ℕ × Assignment → ℕ × Assignment → Ordering
by_number = on (λ x. x.1) cmp_by_rule

at_front : (e : ℕ × Assignment) (xs : List (ℕ × Assignment)) → slice_get (placed by_number e xs) 0 ≡ Some (sooner_of e (slice_get xs 0))
at_front e [] = refl
at_front e (y ∷ ys) = by (is_gt (cmp_by_rule e.1 y.1))
  where
    by : (b : Bool) → slice_get (if b then y ∷ placed by_number e ys else e ∷ y ∷ ys) 0 ≡ Some (if b then y else e)
    by true = refl
    by false = refl

pub least_more : (e : ℕ × Assignment) (es : List (ℕ × Assignment))
    → least_of by_number (e ∷ es) ≡ Some (sooner_of e (least_of by_number es))
least_more e es = at_front e (ascending by_number es)

-- one assignment more at the front
pub one_more : (results : Results) (n : ℕ) (a : Assignment) (rest : List Assignment)
    → least_with results (n, a) (least_of by_number (faulted_from (n + 1) results rest))
    ≡ least_of by_number (faulted_from n results (a ∷ rest))
one_more results n a rest = by (is_faulted (results (name_assigned a)))
  where
    by : (b : Bool)
        → (if b then Some (sooner_of (n, a) (least_of by_number (faulted_from (n + 1) results rest))) else least_of by_number (faulted_from (n + 1) results rest))
        ≡ least_of by_number (if b then (n, a) ∷ faulted_from (n + 1) results rest else faulted_from (n + 1) results rest)
    by true = sym (least_more (n, a) (faulted_from (n + 1) results rest))
    by false = refl

-- the place before those that were looked at
pub one_sooner : (results : Results) (xs : List Assignment) (n at : ℕ) (x : Assignment) (least : Option (ℕ × Assignment))
    → n + 1 ≡ at → n < length xs → least ≡ least_of by_number (faulted_from at results (drop at xs))
    → least_with results (n, get_or xs n x) least ≡ least_of by_number (faulted_from n results (drop n xs))
one_sooner results xs n at x least e lt h =
    let a = get_or xs n x in
    ap (least_with results (n, a)) (h ∙ ap (λ k. least_of by_number (faulted_from k results (drop at xs))) (sym e)) ∙ one_more results n a (drop at xs)
    ∙ ap (λ ys. least_of by_number (faulted_from n results ys)) (from_place xs n at x e lt)
