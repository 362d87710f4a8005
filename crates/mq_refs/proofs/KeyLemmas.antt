-- Which keys are among others.
use Rattle.std.proofs.Common.{◌≡◌, ℕ, List, [], ◌∷◌, Bool, true, false, ◌&&◌, ◌||◌, cond, get_or, length, Result, Ok, Err, is_eq, refl, sym, ap, ◌∙◌}
use Rattle.std.specs.List.{filter}
use Rattle.std.specs.List.Sorted.{IsBinarySearchResult, IsSearchInRange}
use Rattle.std.proofs.lemmas.Option.{slice_get-get_or}
use Rattle.std.proofs.lemmas.Map.Keys.{any_passes_from_place}
use Rattle.mq_values.specs.Order.{cmp_key}
use Rattle.mq_values.specs.OrderTells.{key_itself, same_key}
use Rattle.mq_ir.specs.Keys.{Tuple, is_among, is_same}
use Rattle.mq_refs.proofs.SightLemmas.{equal_is}

-- a search that finds a key, whether or not the keys ascend
pub found_among : (keys : List Tuple) (key : Tuple) (r : Result ℕ ℕ) (at : ℕ) → IsSearchInRange r (length keys) → IsBinarySearchResult (λ k. cmp_key k key) keys r → r ≡ Ok at → true ≡ is_among keys key
found_among keys key (Ok place) at bound told is =
    sym (any_passes_from_place (is_same key) keys place (get_or keys place key) (slice_get-get_or keys place key bound)
    (ap (λ k. is_eq (cmp_key key k)) (same_key (get_or keys place key) key (told key)) ∙ ap is_eq (key_itself key)))
found_among keys key (Err place) at bound told is = cc

and_no : (a : Bool) → (a && false) ≡ false
and_no true = refl
and_no false = refl

module _ (p : Tuple → Bool) (key : Tuple) where
  -- what is among the keys that p keeps
  kept : (keys : List Tuple) → is_among (filter p keys) key ≡ (is_among keys key && p key)
  kept [] = refl
  kept (k ∷ ks) = by (p k) refl (is_same key k) refl (kept ks)
    where
      same : is_same key k ≡ true → p key ≡ p k
      same h = ap p (same_key key k (equal_is (cmp_key key k) h))

      by : (b : Bool) → p k ≡ b → (s : Bool) → is_same key k ≡ s → is_among (filter p ks) key ≡ (is_among ks key && p key) →
          is_among (cond b (k ∷ filter p ks) (filter p ks)) key ≡ ((s || is_among ks key) && p key)
      by true e true f rest = ap (λ t. t || is_among (filter p ks) key) f ∙ sym (same f ∙ e)
      by true e false f rest = ap (λ t. t || is_among (filter p ks) key) f ∙ rest
      by false e true f rest = rest ∙ ap (λ t. is_among ks key && t) (same f ∙ e) ∙ and_no (is_among ks key) ∙ sym (same f ∙ e)
      by false e false f rest = rest

  -- the same, where p keeps no key but these
  pub among_kept : (keys : List Tuple) → (is_among keys key ≡ false → p key ≡ false) → p key ≡ is_among (filter p keys) key
  among_kept keys h = sym (kept keys ∙ by (is_among keys key) h)
    where
      by : (b : Bool) → (b ≡ false → p key ≡ false) → (b && p key) ≡ p key
      by true h = refl
      by false h = sym (h refl)
