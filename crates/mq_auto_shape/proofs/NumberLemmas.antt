-- What stands at measures of cells after one number was put.
use Rattle.std.proofs.Common.{◌≡◌, ℕ, ◌+◌, ◌==◌, ◌&&◌, ◌||◌, Bool, true, false, cond, List, [], ◌∷◌, get_or, Option, Some, None, Ordering, Less, Equal, Greater, if◌then◌else◌, refl, sym, ap, ◌∙◌}
use Rattle.std.specs.BTreeMap.{is_at}
use Rattle.std.specs.Cmp.{unsigned_Decides}
use Rattle.std.specs.List.{list_any, position_from}
use Rattle.std.specs.Option.{option_and_then}
use Rattle.std.specs.Ordering.{is_eq}
use Rattle.std.proofs.lemmas.Iterator.Adapters.{position_from-zero}
use Rattle.std.proofs.lemmas.List.Quantifiers.{position-Some}
use Rattle.mq_values.specs.Order.{cmp_key}
use Rattle.mq_values.specs.OrderTells.{key_itself, same_key}
use Rattle.mq_dim_index.specs.Places.{is_there, place_of}
use Rattle.mq_ir.specs.Keys.{Tuple, is_same}
use Rattle.mq_cells.specs.LaneItems.{LaneDiffers, lane_item}
use Rattle.mq_auto_shape.specs.Numbers.{Numbered, NumberDiffers, number_at}

is_equal : (o : Ordering) → is_eq o ≡ true → o ≡ Equal
is_equal Less h = cc
is_equal Equal h = refl
is_equal Greater h = cc

pub same_tuple : (a b : Tuple) → is_same a b ≡ true → a ≡ b
same_tuple a b h = same_key a b (is_equal (cmp_key a b) h)

-- one place has one key
one_key : (keys : List Tuple) (a b : Tuple) (at : ℕ) → place_of keys a ≡ Some at → place_of keys b ≡ Some at → is_same a b ≡ true
one_key keys a b at f g =
    let x = same_tuple a (get_or keys at a) (position-Some (is_at (cmp_key a)) keys at a f).1 in
    let y = same_tuple b (get_or keys at a) (position-Some (is_at (cmp_key b)) keys at a g).1 in
    sym (ap (λ c. is_eq (cmp_key a c)) (x ∙ sym y)) ∙ ap is_eq (key_itself a)

module _ (keys : List Tuple) (before after : List (List (Option ℕ))) (key : Tuple) (m at number : ℕ) (place : place_of keys key ≡ Some at) (d : LaneDiffers before after m at (Some number)) where
  elsewhere : (k : Tuple) (j : ℕ) → is_same key k ≡ false → (o : Option ℕ) → place_of keys k ≡ o → option_and_then (lane_item after j) o ≡ option_and_then (lane_item before j) o
  elsewhere k j apart None e = refl
  elsewhere k j apart (Some p) e = d j p ∙ by (m == j) (at == p) refl
    where
      by : (a b : Bool) → (at == p) ≡ b → (if a && b then Some number else lane_item before j p) ≡ lane_item before j p
      by true true f =
          let there : place_of keys k ≡ Some at = e ∙ ap Some (sym ((unsigned_Decides at p).0 f)) in
          let same : is_same key k ≡ true = one_key keys key k at place there in
          absurd (cc)
      by true false f = refl
      by false b f = refl

  here : (j : ℕ) → lane_item after j at ≡ (if m == j then Some number else lane_item before j at)
  here j = d j at ∙ by (m == j) (at == at) ((unsigned_Decides at at).1 refl)
    where
      by : (a b : Bool) → b ≡ true → (if a && b then Some number else lane_item before j at) ≡ (if a then Some number else lane_item before j at)
      by true true f = refl
      by true false f = cc
      by false b f = refl

  differs : NumberDiffers (record { keys = keys; lanes = before }) (record { keys = keys; lanes = after }) key m (Some number)
  differs k j = by (is_same key k) refl
    where
      by : (b : Bool) → is_same key k ≡ b
          → option_and_then (lane_item after j) (place_of keys k) ≡ (if b && (m == j) then Some number else option_and_then (lane_item before j) (place_of keys k))
      by true e =
          let there : place_of keys k ≡ Some at = sym (ap (place_of keys) (same_tuple key k e)) ∙ place in
          ap (option_and_then (lane_item after j)) there ∙ here j
          ∙ sym (ap (λ o. if m == j then Some number else option_and_then (lane_item before j) o) there)
      by false e = elsewhere k j e (place_of keys k) refl

-- a number is put at the place of a cell
pub put_differs : (seen : Numbered) (keys : List Tuple) (before after : List (List (Option ℕ))) (key : Tuple) (m at number : ℕ) → record { keys = keys; lanes = before } ≡ seen
    → place_of keys key ≡ Some at → LaneDiffers before after m at (Some number) → NumberDiffers seen (record { keys = keys; lanes = after }) key m (Some number)
put_differs seen keys before after key m at number view place d =
    λ k j. differs keys before after key m at number place d k j ∙ ap (λ (s : Numbered). if is_same key k && (m == j) then Some number else number_at s k j) view

misses : {X : Type 0} (test : X → Bool) (i : ℕ) (xs : List X) → position_from test i xs ≡ None → list_any test xs ≡ false
misses test i [] h = refl
misses test i (x ∷ xs) h = by (test x) h (λ g. misses test (i + 1) xs g)
  where
    by : (b : Bool) → cond b (Some i) (position_from test (i + 1) xs) ≡ None → (position_from test (i + 1) xs ≡ None → list_any test xs ≡ false) → (b || list_any test xs) ≡ false
    by true g rest = absurd (cc)
    by false g rest = rest g

-- a key that is there has a place
pub has_place : (keys : List Tuple) (key : Tuple) → is_there keys key ≡ true → None ≡ place_of keys key → ⊥
has_place keys key h none = let f : is_there keys key ≡ false = misses (is_at (cmp_key key)) 0 keys (sym (position_from-zero (is_at (cmp_key key)) keys) ∙ sym none) in cc
