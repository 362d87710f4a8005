-- Cells and assignments that come one by one, from the last to the first.
use Rattle.std.proofs.Common.{◌≡◌, ℕ, ◌+◌, ◌<◌, ◌≤◌, Bool, true, false, ◌||◌, List, [], ◌∷◌, ◌++◌, drop, length, get_or, Option, Some, slice_get, if◌then◌else◌, Ordering, Less, Equal, Greater, refl, sym, ap, ◌∙◌}
use Rattle.std.specs.List.{AllByRecursion}
use Rattle.std.specs.List.Sorted.{IsStrictlySortedBy}
use Rattle.std.specs.Ordering.{is_eq, is_gt, match_ordering}
use Rattle.std.proofs.lemmas.List.{drop_all}
use Rattle.mq_values.specs.Order.{cmp_key}
use Rattle.mq_ir.specs.Keys.{Tuple}
use Rattle.mq_ir.specs.Partitions.{ascending, placed}
use Rattle.mq_ir.specs.Shape.{least_of}
use Rattle.mq_dim_index.specs.Places.{is_there, with_key}
use Rattle.mq_auto_shape.specs.Walk.{sooner_of}
use Rattle.mq_auto_shape.proofs.StepLemmas.{item_before}

-- ---- the least
pub least_front : {K : Type 0} (cmp : K → K → Ordering) (x : K) (xs : List K) → slice_get (placed cmp x xs) 0 ≡ Some (sooner_of cmp x (slice_get xs 0))
least_front cmp x [] = refl
least_front cmp x (y ∷ ys) = by (is_gt (cmp x y))
  where
    by : (b : Bool) → slice_get (if b then y ∷ placed cmp x ys else x ∷ y ∷ ys) 0 ≡ Some (if b then y else x)
    by true = refl
    by false = refl

pub least_more : {K : Type 0} (cmp : K → K → Ordering) (xs : List K) (n at : ℕ) (x : K) (least : Option K) → n + 1 ≡ at → n < length xs → x ≡ get_or xs n x
    → least ≡ least_of cmp (drop at xs) → Some (sooner_of cmp x least) ≡ least_of cmp (drop n xs)
least_more cmp xs n at x least e lt is h =
    ap (λ l. Some (sooner_of cmp x l)) h ∙ sym (least_front cmp x (ascending cmp (drop at xs))) ∙ sym (ap (least_of cmp) (item_before xs n at x e lt is))

-- ---- cells
alone : (x : Tuple) (xs : List Tuple) → AllByRecursion (λ y. cmp_key x y ≡ Less) xs → placed cmp_key x xs ≡ x ∷ xs
alone x [] h = refl
alone x (y ∷ ys) h = ap (λ r. if is_gt r then y ∷ placed cmp_key x ys else x ∷ y ∷ ys) h.0

-- keys that ascend stay as they are
pub stays : (xs : List Tuple) → IsStrictlySortedBy cmp_key xs → ascending cmp_key xs ≡ xs
unfolding IsStrictlySortedBy
stays [] s = refl
stays (x ∷ xs) s = ap (placed cmp_key x) (stays xs s.1) ∙ alone x xs s.0

-- a key that is not there, put at its place
pub put_there : (keys : List Tuple) (key : Tuple) → is_there keys key ≡ false → with_key keys key ≡ placed cmp_key key keys
put_there [] key h = refl
put_there (x ∷ xs) key h = by (cmp_key key x) h (put_there xs key)
  where
    by : (r : Ordering) → (is_eq r || is_there xs key) ≡ false → (is_there xs key ≡ false → with_key xs key ≡ placed cmp_key key xs)
        → match_ordering r (key ∷ x ∷ xs) (x ∷ xs) (x ∷ with_key xs key) ≡ (if is_gt r then x ∷ placed cmp_key key xs else key ∷ x ∷ xs)
    by Less g rest = refl
    by Equal g rest = absurd (cc)
    by Greater g rest = ap (λ l. x ∷ l) (rest g)

pub cells_start : (keys set : List Tuple) (n : ℕ) → length keys ≤ n → IsStrictlySortedBy cmp_key set → set ≡ ascending cmp_key (drop n keys ++ set)
cells_start keys set n h s = sym (ap (λ l. ascending cmp_key (l ++ set)) (drop_all n keys h) ∙ stays set s)

pub cells_next : (keys set now after : List Tuple) (n at : ℕ) (x : Tuple) → n + 1 ≡ at → n < length keys → x ≡ get_or keys n x
    → now ≡ ascending cmp_key (drop at keys ++ set) → after ≡ placed cmp_key x now → after ≡ ascending cmp_key (drop n keys ++ set)
cells_next keys set now after n at x e lt is h a =
    a ∙ ap (placed cmp_key x) h ∙ sym (ap (λ l. ascending cmp_key (l ++ set)) (item_before keys n at x e lt is))
