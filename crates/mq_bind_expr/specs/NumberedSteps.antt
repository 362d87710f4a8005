-- Loops that take a step for each item of a list and its number, of which each may fail.
use Rattle.std.proofs.Common.{◌≡◌, ℕ, ◌+◌, ◌<◌, ◌≤◌, List, [], ◌∷◌, ◌++◌, drop, length, get_or, Result, Ok, Err, ap, ◌∙◌}
use Rattle.std.proofs.lemmas.List.{append-nil, drop_all}
use Rattle.mq_values.specs.Answers.{Gives}
use Rattle.mq_values.specs.declared.faults.Refused.{Refused}
use Rattle.mq_values.specs.declared.memory.Fail.{Fail}
use Rattle.mq_ir.specs.Results.{◌>>=◌}
use Rattle.mq_bind_expr.specs.Steps.{each_from}
use Rattle.mq_bind_expr.specs.StepLemmas.{after_fault, after_ok, fault_is_last, next_item, started}

-- `each_from`: the first i items gave ys, and the next one has the number n
pub record Numbered {A B : Type 0} (f : ℕ → A → Result B Refused) (first : ℕ) (xs : List A) (i n : ℕ) (ys : List B) : Type 0 where
  pub is : each_from f first xs ≡ (each_from f n (drop i xs) >>= (λ zs. Ok (ys ++ zs)))

pub numbered_start : {A B : Type 0} (f : ℕ → A → Result B Refused) (first : ℕ) (xs : List A) → Numbered f first xs 0 first []
numbered_start f first xs = record { is = started (each_from f first xs) }

pub numbered_next : {A B : Type 0} (f : ℕ → A → Result B Refused) (first : ℕ) (xs : List A) (i n : ℕ) (ys : List B) (x : A) (y : B) → i < length xs → x ≡ get_or xs i x → f n x ≡ Ok y → Numbered f first xs i n ys → Numbered f first xs (i + 1) (n + 1) (ys ++ y ∷ [])
numbered_next f first xs i n ys x y h e g w = record {
  is =
      after_ok (each_from f first xs) (each_from f n (drop i xs)) (f n x) (λ y. each_from f (n + 1) (drop (i + 1) xs)) ys y w.is
      (ap (each_from f n) (next_item xs i x h e)) g;
}

pub numbered_end : {A B : Type 0} (f : ℕ → A → Result B Refused) (first : ℕ) (xs : List A) (i n : ℕ) (ys : List B) → length xs ≤ i → Numbered f first xs i n ys → each_from f first xs ≡ Ok ys
numbered_end f first xs i n ys h w =
    w.is ∙ ap (λ r. each_from f n r >>= (λ zs. Ok (ys ++ zs))) (drop_all i xs h) ∙ ap Ok (append-nil ys)

-- the answer of a step that gave none is the loop's
pub numbered_exit : {A B : Type 0} (f : ℕ → A → Result B Refused) (first : ℕ) (xs : List A) (i n : ℕ) (ys : List B) (x : A) (e : Fail Refused) → i < length xs → x ≡ get_or xs i x → Numbered f first xs i n ys → Gives {T = B} (Err e) (f n x) → Gives {T = List B} (Err e) (each_from f first xs)
numbered_exit f first xs i n ys x e h at w g =
    fault_is_last (f n x) (each_from f first xs) e g
    (λ fault is.
    after_fault (each_from f first xs) (each_from f n (drop i xs)) (f n x) (λ y. each_from f (n + 1) (drop (i + 1) xs)) ys fault w.is
    (ap (each_from f n) (next_item xs i x h at)) is)
