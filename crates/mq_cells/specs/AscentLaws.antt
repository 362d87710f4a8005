-- What the order of keys says of a list, and of a search in it.
use Rattle.std.proofs.Common.{◌≡◌, ◌↔◌, true≢false, ℕ, ◌+◌, ◌<◌, ◌≤◌, List, [], ◌∷◌, Bool, true, false, IsTrue, length, get_or, Err, Ordering, Less, Equal, Greater, refl, sym, ap, ◌∙◌, inl, inr, ◌⊎◌, arith}
use Rattle.std.specs.Cmp.{on_total}
use Rattle.std.specs.List.{AllWithin, IsAllAdjacentAnswer}
use Rattle.std.specs.List.Sorted.{IsBinarySearchResult, IsSortedBy, IsStrictlySortedBy}
use Rattle.std.specs.Ordering.{is_eq, is_lt, on, ordering_reverse}
use Rattle.std.proofs.lemmas.Bool.{cases_lt}
use Rattle.std.proofs.lemmas.List.Sorted.{searchable_from_sorted}
use Rattle.std.proofs.lemmas.Map.Keys.{Less-from_sorted, sorted_from_all_adjacent}
use Rattle.mq_values.specs.Order.{cmp_key}
use Rattle.mq_values.specs.OrderLaws.{key_total}
use Rattle.mq_ir.specs.Keys.{Tuple, is_same}

pub less_is : (r : Ordering) → true ≡ is_lt r → r ≡ Less
less_is Less h = refl
less_is Equal h = cc
less_is Greater h = cc

pub turned : (a b : Tuple) (r : Ordering) → cmp_key a b ≡ r → cmp_key b a ≡ ordering_reverse r
turned a b r h = key_total.antisymm b a ∙ ap ordering_reverse h

-- items by their keys
module _ {X : Type 0} (f : X → Tuple) where
  -- each is below the next exactly where they ascend
  pub told_ascending : (xs : List X) (r : Bool) → IsAllAdjacentAnswer (λ x y b. b ≡ is_lt (cmp_key (f x) (f y))) xs r → IsTrue r ↔ IsStrictlySortedBy (on f cmp_key) xs
  unfolding IsStrictlySortedBy
  told_ascending [] true h = ((λ t. tt), (λ s. refl))
  told_ascending (x ∷ xs) true h = ((λ t. sorted_from_all_adjacent (on_total f key_total) (x ∷ xs) x (λ k l. less_is _ (h k x l))), (λ s. refl))
  told_ascending [] false (k, l, h) = absurd (omega arith)
  told_ascending (x ∷ xs) false (k, l, h) =
      ((λ t. absurd (true≢false (sym t))), (λ s. h x ∙ ap is_lt (Less-from_sorted (on f cmp_key) (x ∷ xs) k (k + 1) x s (omega arith) l)))

  module _ (xs : List X) (key : Tuple) (s : IsStrictlySortedBy (on f cmp_key) xs) where
    in_order : IsSortedBy (λ a b. is_lt (cmp_key (f a) (f b))) xs
    in_order k d low l = ap is_lt (turned (f (get_or xs k d)) (f (get_or xs (k + 1) d)) Less (Less-from_sorted (on f cmp_key) xs k (k + 1) d s (omega arith) l))

    -- what the search misses is at no place
    pub at_no_place : (at : ℕ) → IsBinarySearchResult (λ x. cmp_key (f x) key) xs (Err at) → (k : ℕ) (d : X) → k < length xs → is_same key (f (get_or xs k d)) ≡ false
    at_no_place at h k d m = by (cases_lt k at)
      where
        parted : AllWithin (λ x. cmp_key (f x) key ≡ Less) xs 0 at × AllWithin (λ x. cmp_key (f x) key ≡ Greater) xs at (length xs)
        parted = h (searchable_from_sorted key_total f xs key in_order)

        by : (k < at) ⊎ (at ≤ k) → is_same key (f (get_or xs k d)) ≡ false
        by (inl l) = ap is_eq (turned (f (get_or xs k d)) key Less (parted.0 k d (omega arith) l))
        by (inr l) = ap is_eq (turned (f (get_or xs k d)) key Greater (parted.1 k d l m))
