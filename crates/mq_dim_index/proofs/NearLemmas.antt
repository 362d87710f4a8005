-- Where a key stands that was seen at a place.
use Rattle.std.proofs.Common.{◌≡◌, ℕ, ◌<◌, List, true, length, Some, Ordering, Less, Equal, Greater, refl, sym, ap, ◌∙◌}
use Rattle.std.specs.List.{HoldsAt}
use Rattle.std.specs.List.Sorted.{IsStrictlySortedBy}
use Rattle.std.specs.Ordering.{is_eq}
use Rattle.mq_values.specs.Order.{cmp_key}
use Rattle.mq_values.specs.OrderLaws.{key_total}
use Rattle.mq_values.specs.OrderTells.{key_itself, same_key}
use Rattle.mq_dim_index.specs.Places.{Tuple, place_of}
use Rattle.mq_dim_index.proofs.PlaceLemmas.{found_here}

pub equal_is : (r : Ordering) → is_eq r ≡ true → r ≡ Equal
equal_is Less h = cc
equal_is Equal h = refl
equal_is Greater h = cc

-- among ascending keys it is the place of the key that stands there
pub stands_here : (keys : List Tuple) (key own : Tuple) (at : ℕ) → IsStrictlySortedBy cmp_key keys → at < length keys → HoldsAt (λ y. own ≡ y) keys at → is_eq (cmp_key key own) ≡ true → place_of keys key ≡ Some at
stands_here keys key own at s l h e =
    let same : key ≡ own = same_key key own (equal_is (cmp_key key own) e) in
    found_here key_total key keys at s l (λ d. ap (λ y. cmp_key y key) (sym (same ∙ h d)) ∙ key_itself key)
