-- Keys that are one, and the places at which they stand.
use Rattle.std.proofs.Common.{◌≡◌, ℕ, true, List, get_or, Some, Ordering, Less, Equal, Greater, refl, sym, ap, ◌∙◌}
use Rattle.std.specs.BTreeMap.{is_at}
use Rattle.std.specs.Ordering.{is_eq}
use Rattle.std.proofs.lemmas.List.Quantifiers.{position-Some}
use Rattle.mq_values.specs.Order.{cmp_key}
use Rattle.mq_values.specs.OrderTells.{key_itself, same_key}
use Rattle.mq_dim_index.specs.Places.{place_of}
use Rattle.mq_ir.specs.Keys.{Tuple, is_same}

is_equal : (o : Ordering) → is_eq o ≡ true → o ≡ Equal
is_equal Less h = cc
is_equal Equal h = refl
is_equal Greater h = cc

pub same_tuple : (a b : Tuple) → is_same a b ≡ true → a ≡ b
same_tuple a b h = same_key a b (is_equal (cmp_key a b) h)

-- one place has one key
pub one_key : (keys : List Tuple) (a b : Tuple) (at : ℕ) → place_of keys a ≡ Some at → place_of keys b ≡ Some at → is_same a b ≡ true
one_key keys a b at f g =
    let x = same_tuple a (get_or keys at a) (position-Some (is_at (cmp_key a)) keys at a f).1 in
    let y = same_tuple b (get_or keys at a) (position-Some (is_at (cmp_key b)) keys at a g).1 in
    sym (ap (λ c. is_eq (cmp_key a c)) (x ∙ sym y)) ∙ ap is_eq (key_itself a)
