-- Lists that are compared item by item.
use Rattle.std.proofs.Common.{◌≡◌, ℕ, ◌+◌, ◌<◌, ◌≤◌, true, false, ◌&&◌, List, [], ◌∷◌, ◌++◌, Ordering, Less, Equal, Greater, drop, get_or, length, take, refl, sym, ap, ◌∙◌}
use Rattle.std.specs.Ordering.{is_ne}
use Rattle.std.proofs.lemmas.List.{drop_all, take_more}
use Rattle.mq_values.specs.ListLaws.{next_item}
use Rattle.mq_values.specs.Order.{cmp_key}
use Rattle.mq_values.specs.OrderTells.{same_key}
use Rattle.mq_ir.specs.declared.query.Look.{Look}
use Rattle.mq_ir.specs.Affected.{are_same_looks, is_same_look}
use Rattle.mq_ir.specs.Keys.{Tuple}

-- one item more is the same in both lists
pub one_more : {A : Type 0} (xs ys : List A) (i : ℕ) (x y : A) → i < length xs → i < length ys → x ≡ get_or xs i x → y ≡ get_or ys i y
    → x ≡ y → take i xs ≡ take i ys → take (i + 1) xs ≡ take (i + 1) ys
one_more {A} xs ys i x y l m at is same h =
    take_more xs i x l ∙ ap (λ (z : A). take i xs ++ z ∷ []) (sym at)
    ∙ (λ j. h j ++ same j ∷ [])
    ∙ sym (take_more ys i y m ∙ ap (λ (z : A). take i ys ++ z ∷ []) (sym is))

-- keys of which neither is less are one
pub key_same : (a b : Tuple) → is_ne (cmp_key a b) ≡ false → a ≡ b
key_same a b h = same_key a b (equal (cmp_key a b) h)
  where
    equal : (r : Ordering) → is_ne r ≡ false → r ≡ Equal
    equal Less e = cc
    equal Equal e = refl
    equal Greater e = cc

-- the rest of two lists of looks, from an item on
pub looks_next : (a b : List Look) (i : ℕ) (x y : Look) → i < length a → i < length b → x ≡ get_or a i x → y ≡ get_or b i y
    → are_same_looks (drop i a) (drop i b) ≡ (is_same_look x y && are_same_looks (drop (i + 1) a) (drop (i + 1) b))
looks_next a b i x y l m at is = λ j. are_same_looks (next_item a i x l at j) (next_item b i y m is j)

pub looks_other : (a b : List Look) (i : ℕ) (x y : Look) → i < length a → i < length b → x ≡ get_or a i x → y ≡ get_or b i y
    → is_same_look x y ≡ false → are_same_looks (drop i a) (drop i b) ≡ false
looks_other a b i x y l m at is h = looks_next a b i x y l m at is ∙ ap (λ s. s && are_same_looks (drop (i + 1) a) (drop (i + 1) b)) h

pub looks_same : (a b : List Look) (i : ℕ) (x y : Look) → i < length a → i < length b → x ≡ get_or a i x → y ≡ get_or b i y
    → is_same_look x y ≡ true → are_same_looks (drop i a) (drop i b) ≡ are_same_looks (drop (i + 1) a) (drop (i + 1) b)
looks_same a b i x y l m at is h = looks_next a b i x y l m at is ∙ ap (λ s. s && are_same_looks (drop (i + 1) a) (drop (i + 1) b)) h

pub looks_end : (a b : List Look) (i : ℕ) → length a ≤ i → length b ≤ i → are_same_looks (drop i a) (drop i b) ≡ true
looks_end a b i l m = λ j. are_same_looks (drop_all i a l j) (drop_all i b m j)
