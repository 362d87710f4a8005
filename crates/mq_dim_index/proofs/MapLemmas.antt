-- The order of a dimension: that it is one, what a search finds, and what a sort leaves.
use Rattle.std.proofs.Common.{◌≡◌, ℕ, ◌+◌, ◌<◌, List, [], ◌∷◌, true, false, length, get_or, Result, Ok, Err, IfOk, IfErr, Ordering, Less, Equal, Greater, refl, sym, subst, ap, ◌∙◌, arith}
use Rattle.std.specs.BTreeMap.{is_at}
use Rattle.std.specs.Cmp.{IsTotalOrder, both_ways, eq_by_cmp_equiv, on_total, then_total, tied_itself}
use Rattle.std.specs.Cmp.Lexicographic.{options_total}
use Rattle.std.specs.List.{AllWithin, IsDistinct, slice_get}
use Rattle.std.specs.List.Sorted.{IsBinarySearchResult, IsPermutation, IsSearchInRange, IsSorted, IsSortedBy, IsStrictlySortedBy}
use Rattle.std.specs.Ordering.{eq_by_cmp, is_eq, is_lt, ordering_reverse, ordering_then}
use Rattle.std.proofs.lemmas.List.Sorted.{searchable_from_sorted}
use Rattle.std.proofs.lemmas.Map.Keys.{IsDistinct-IsPermutation, IsDistinct-from_sorted, Less-from_sorted, apart_from_distinct, sorted_from_all_adjacent}
use Rattle.mq_values.specs.Order.{cmp_key}
use Rattle.mq_values.specs.OrderLaws.{key_total, value_total}
use Rattle.mq_values.specs.OrderTells.{same_key}
use Rattle.mq_dim_index.specs.Maps.{FitsFrom, StandsFrom}
use Rattle.mq_dim_index.specs.Places.{Tuple}
use Rattle.mq_dim_index.specs.Runs.{cmp_from, cmp_in}
use Rattle.mq_dim_index.proofs.NearLemmas.{equal_is}
use Rattle.mq_dim_index.proofs.PlaceLemmas.{at_no_place, inserted_here, kept_here, lacks_each, nothing_removed, removed_here, turned}

pub in_total : (d : ℕ) → IsTotalOrder (cmp_in d)
in_total d = on_total (λ (key : Tuple). slice_get key d) (options_total value_total)

pub from_total : (d : ℕ) → IsTotalOrder (cmp_from d)
from_total d = then_total (in_total d) key_total

second_equal : (r s : Ordering) → ordering_then r s ≡ Equal → s ≡ Equal
second_equal Less s h = cc
second_equal Equal s h = h
second_equal Greater s h = cc

-- it tells the same keys apart as the order of keys
pub told_alike : (d : ℕ) (a b : Tuple) → is_eq (cmp_from d a b) ≡ is_eq (cmp_key a b)
told_alike d a b = both_ways (is_eq (cmp_from d a b)) (is_eq (cmp_key a b)) over back
  where
    over : is_eq (cmp_from d a b) ≡ true → is_eq (cmp_key a b) ≡ true
    over h = ap is_eq (second_equal (cmp_in d a b) (cmp_key a b) (equal_is (cmp_from d a b) h))

    back : is_eq (cmp_key a b) ≡ true → is_eq (cmp_from d a b) ≡ true
    back h =
        let same : a ≡ b = same_key a b (equal_is (cmp_key a b) h) in
        ap is_eq (sym (ap (cmp_from d a) same) ∙ tied_itself (from_total d) a)

-- what the search of std says
pub searched_from : (d : ℕ) (keys : List Tuple) (key : Tuple) → IsStrictlySortedBy (cmp_from d) keys → (r : Result ℕ ℕ) → IsSearchInRange r (length keys) → IsBinarySearchResult (λ k. cmp_from d k key) keys r →
    IfOk r (StandsFrom d keys key) × IfErr r (FitsFrom d keys key)
searched_from d keys key s (Ok at) bound h = (
  record {
    below = bound;
    removed = removed_here (from_total d) key keys at s bound h;
    kept = kept_here (from_total d) key keys at s bound h;
  },
  tt,
)
searched_from d keys key s (Err at) bound h = (
  tt,
  record {
    within = bound;
    inserted = inserted_here (from_total d) key keys at bound parted.0 parted.1;
    unchanged = nothing_removed (is_at (cmp_from d key)) keys (lacks_each (from_total d) key (is_at (cmp_from d key)) keys other);
  },
)
  where
    in_order : IsSortedBy (λ a b. is_lt (cmp_from d a b)) keys
    in_order k e low l = ap is_lt (turned (from_total d) key (get_or keys k e) (get_or keys (k + 1) e) Less (Less-from_sorted (cmp_from d) keys k (k + 1) e s (omega arith) l))

    parted : AllWithin (λ k. cmp_from d k key ≡ Less) keys 0 at × AllWithin (λ k. cmp_from d k key ≡ Greater) keys at (length keys)
    parted = h (searchable_from_sorted (from_total d) (λ k. k) keys key in_order)

    other : (k : ℕ) → k < length keys → is_at (cmp_from d key) (get_or keys k key) ≡ false
    other = at_no_place (from_total d) key keys at parted.0 parted.1

-- keys that differ and of which none is below the one before it stand in strict order
less_if_apart : (r s : Ordering) → is_lt s ≡ false → is_eq r ≡ false → s ≡ ordering_reverse r → r ≡ Less
less_if_apart Less s l e t = refl
less_if_apart Equal s l e t = cc
less_if_apart Greater s l e t = let h : true ≡ false = sym (ap is_lt t) ∙ l in cc

none_sorted : (d : ℕ) → IsStrictlySortedBy (cmp_from d) []
unfolding IsStrictlySortedBy
none_sorted d = tt

pub sorted_strictly : (d : ℕ) (xs ys : List Tuple) → IsStrictlySortedBy cmp_key xs → IsPermutation xs ys → IsSorted (cmp_from d) ys → IsStrictlySortedBy (cmp_from d) ys
sorted_strictly d xs [] s p rises = none_sorted d
sorted_strictly d xs (y ∷ ys) s p rises = sorted_from_all_adjacent (from_total d) (y ∷ ys) y next
  where
    one_test : eq_by_cmp cmp_key ≡ eq_by_cmp (cmp_from d)
    one_test i a b = sym (told_alike d a b) i

    differ : IsDistinct (eq_by_cmp (cmp_from d)) (y ∷ ys)
    differ =
        IsDistinct-IsPermutation (eq_by_cmp (cmp_from d)) (eq_by_cmp_equiv (from_total d)).symm xs (y ∷ ys) p
        (subst (λ e. IsDistinct e xs) one_test (IsDistinct-from_sorted cmp_key xs s))

    next : (k : ℕ) → k + 1 < length (y ∷ ys) → cmp_from d (get_or (y ∷ ys) k y) (get_or (y ∷ ys) (k + 1) y) ≡ Less
    next k l =
        less_if_apart (cmp_from d (get_or (y ∷ ys) k y) (get_or (y ∷ ys) (k + 1) y)) (cmp_from d (get_or (y ∷ ys) (k + 1) y) (get_or (y ∷ ys) k y))
        (rises k y (omega arith) l)
        (apart_from_distinct (eq_by_cmp (cmp_from d)) (y ∷ ys) k (k + 1) y differ (omega arith) l)
        ((from_total d).antisymm (get_or (y ∷ ys) (k + 1) y) (get_or (y ∷ ys) k y))
