-- Loops over the items of a list with their numbers.
use Rattle.std.proofs.Common.{◌≡◌, ℕ, ◌+◌, ◌<◌, ◌≤◌, List, [], ◌∷◌, ◌++◌, drop, length, get_or, map, refl, sym, ap, ◌∙◌, append_assoc}
use Rattle.std.specs.List.{enumerate_from}
use Rattle.std.proofs.lemmas.List.{append-nil, drop_all}
use Rattle.mq_bind_expr.specs.StepLemmas.{next_item}

-- behind `base` stands what the first i items gave, each with its number
pub record Listed {A B : Type 0} (f : ℕ × A → B) (xs : List A) (base : List B) (i : ℕ) (ys : List B) : Type 0 where
  pub is : base ++ map f (enumerate_from 0 xs) ≡ ys ++ map f (enumerate_from i (drop i xs))

pub list_start : {A B : Type 0} (f : ℕ × A → B) (xs : List A) (base : List B) → Listed f xs base 0 base
list_start f xs base = record { is = refl }

pub list_next : {A B : Type 0} (f : ℕ × A → B) (xs : List A) (base : List B) (i : ℕ) (ys : List B) (x : A) (y : B) → i < length xs → x ≡ get_or xs i x → y ≡ f (i, x) → Listed f xs base i ys → Listed f xs base (i + 1) (ys ++ y ∷ [])
list_next f xs base i ys x y h e g w = record {
  is =
      w.is
      ∙ ap (λ l. ys ++ map f (enumerate_from i l)) (next_item xs i x h e)
      ∙ ap (λ z. ys ++ z ∷ map f (enumerate_from (i + 1) (drop (i + 1) xs))) (sym g)
      ∙ sym (append_assoc ys (y ∷ []) (map f (enumerate_from (i + 1) (drop (i + 1) xs))));
}

pub list_end : {A B : Type 0} (f : ℕ × A → B) (xs : List A) (base : List B) (i : ℕ) (ys : List B) → length xs ≤ i → Listed f xs base i ys → ys ≡ base ++ map f (enumerate_from 0 xs)
list_end f xs base i ys h w = sym (w.is ∙ ap (λ l. ys ++ map f (enumerate_from i l)) (drop_all i xs h) ∙ append-nil ys)
