-- What comparisons tell.
use Rattle.std.proofs.Common.{◌≡◌, ℕ, ◌+◌, ◌<◌, true, List, take, length, get_or, Ordering, Less, Equal, Greater, refl, sym, ap, ◌∙◌}
use Rattle.std.specs.Ordering.{is_eq}
use Rattle.std.proofs.lemmas.List.{take_more_same}
use Rattle.mq_values.specs.Order.{cmp_key}
use Rattle.mq_values.specs.OrderTells.{same_key}
use Rattle.mq_ir.specs.Keys.{Tuple, is_same}

-- tuples that are the same are one
pub one_key : (a b : Tuple) → is_same a b ≡ true → a ≡ b
one_key a b h = same_key a b (equal (cmp_key a b) h)
  where
    equal : (r : Ordering) → is_eq r ≡ true → r ≡ Equal
    equal Less e = cc
    equal Equal e = refl
    equal Greater e = cc

-- two lists that are one so far are so behind the next item too
pub one_further : {X : Type 0} (xs ys : List X) (i : ℕ) (x y : X) → i < length xs → i < length ys → x ≡ get_or xs i x → y ≡ get_or ys i y → x ≡ y
    → take i xs ≡ take i ys → take (i + 1) xs ≡ take (i + 1) ys
one_further xs ys i x y l m at is e h = take_more_same xs ys i x l m h (sym at ∙ e ∙ is ∙ ap (get_or ys i) (sym e))
