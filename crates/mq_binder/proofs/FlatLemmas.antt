-- Loops that put some items for each item of a list with its number.
use Rattle.std.proofs.Common.{◌≡◌, ℕ, ◌+◌, ◌<◌, ◌≤◌, List, [], ◌++◌, drop, length, get_or, refl, sym, ap, ◌∙◌, append_assoc}
use Rattle.std.specs.List.{enumerate_from, flat_map}
use Rattle.std.proofs.lemmas.List.{append-nil, drop_all}
use Rattle.mq_bind_expr.specs.StepLemmas.{next_item}

-- the first i items gave ys
pub record Flat {A B : Type 0} (f : ℕ × A → List B) (xs : List A) (i : ℕ) (ys : List B) : Type 0 where
  pub is : flat_map f (enumerate_from 0 xs) ≡ ys ++ flat_map f (enumerate_from i (drop i xs))

pub flat_start : {A B : Type 0} (f : ℕ × A → List B) (xs : List A) → Flat f xs 0 []
flat_start f xs = record { is = refl }

pub flat_next : {A B : Type 0} (f : ℕ × A → List B) (xs : List A) (i : ℕ) (ys : List B) (x : A) → i < length xs → x ≡ get_or xs i x → Flat f xs i ys → Flat f xs (i + 1) (ys ++ f (i, x))
flat_next f xs i ys x h e w = record {
  is =
      w.is
      ∙ ap (λ l. ys ++ flat_map f (enumerate_from i l)) (next_item xs i x h e)
      ∙ sym (append_assoc ys (f (i, x)) (flat_map f (enumerate_from (i + 1) (drop (i + 1) xs))));
}

pub flat_end : {A B : Type 0} (f : ℕ × A → List B) (xs : List A) (i : ℕ) (ys : List B) → length xs ≤ i → Flat f xs i ys → ys ≡ flat_map f (enumerate_from 0 xs)
flat_end f xs i ys h w = sym (w.is ∙ ap (λ l. ys ++ flat_map f (enumerate_from i l)) (drop_all i xs h) ∙ append-nil ys)
