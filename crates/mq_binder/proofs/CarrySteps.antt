-- Loops that take a step for each item of a list and gather something on the way, where each step may fail.
use Rattle.std.proofs.Common.{◌≡◌, ℕ, ◌+◌, ◌<◌, ◌≤◌, List, [], ◌∷◌, ◌++◌, drop, length, get_or, Result, Ok, Err, refl, sym, ap, ◌∙◌, append_assoc}
use Rattle.std.proofs.lemmas.List.{append-nil, drop_all}
use Rattle.mq_values.specs.Answers.{Gives}
use Rattle.mq_values.specs.declared.faults.Refused.{Refused}
use Rattle.mq_values.specs.declared.memory.Fail.{Fail}
use Rattle.mq_ir.specs.Results.{◌>>=◌}
use Rattle.mq_bind_expr.specs.Steps.{each_with, each_with_from}
use Rattle.mq_bind_expr.specs.StepLemmas.{fault_is_last, next_item}

-- what a walk gives behind these
abbrev pub behind : {B S : Type 0} → List B → List B × S → Result (List B × S) Refused
behind ys r = Ok (ys ++ r.0, r.1)

-- a step, and the walk behind it
abbrev pub stepped : {B S : Type 0} → Result (B × S) Refused → (S → Result (List B × S) Refused) → Result (List B × S) Refused
stepped first rest = first >>= (λ y. rest y.1 >>= (λ zs. Ok (y.0 ∷ zs.0, zs.1)))

begun : {B S : Type 0} (r : Result (List B × S) Refused) → r ≡ (r >>= behind [])
begun (Ok ys) = refl
begun (Err fault) = refl

carried : {B S : Type 0} (r : Result (List B × S) Refused) (ys : List B) (y : B) → ((r >>= (λ zs. Ok (y ∷ zs.0, zs.1))) >>= behind ys) ≡ (r >>= behind (ys ++ y ∷ []))
carried (Ok zs) ys y = ap (λ l. Ok (l, zs.1)) (sym (append_assoc ys (y ∷ []) zs.0))
carried (Err fault) ys y = refl

step_ok : {B S : Type 0} (all step : Result (List B × S) Refused) (first : Result (B × S) Refused) (rest : S → Result (List B × S) Refused) (ys : List B) (y : B) (after : S)
    → all ≡ (step >>= behind ys) → step ≡ stepped first rest → first ≡ Ok (y, after) → all ≡ (rest after >>= behind (ys ++ y ∷ []))
step_ok all step first rest ys y after a s g = a ∙ ap (λ r. r >>= behind ys) (s ∙ ap (λ o. stepped o rest) g) ∙ carried (rest after) ys y

step_fault : {B S : Type 0} (all step : Result (List B × S) Refused) (first : Result (B × S) Refused) (rest : S → Result (List B × S) Refused) (ys : List B) (fault : Refused)
    → all ≡ (step >>= behind ys) → step ≡ stepped first rest → first ≡ Err fault → all ≡ Err fault
step_fault all step first rest ys fault a s g = a ∙ ap (λ r. r >>= behind ys) (s ∙ ap (λ o. stepped o rest) g)

-- `each_with`: the first i items gave ys, and this much is gathered
pub record Carried {A B S : Type 0} (f : S → A → Result (B × S) Refused) (start : S) (xs : List A) (i : ℕ) (ys : List B) (now : S) : Type 0 where
  pub is : each_with f start xs ≡ (each_with f now (drop i xs) >>= behind ys)

pub carry_start : {A B S : Type 0} (f : S → A → Result (B × S) Refused) (start : S) (xs : List A) → Carried f start xs 0 [] start
carry_start f start xs = record { is = begun (each_with f start xs) }

pub carry_next : {A B S : Type 0} (f : S → A → Result (B × S) Refused) (start : S) (xs : List A) (i : ℕ) (ys : List B) (now : S) (x : A) (y : B) (after : S) → i < length xs → x ≡ get_or xs i x → f now x ≡ Ok (y, after) → Carried f start xs i ys now → Carried f start xs (i + 1) (ys ++ y ∷ []) after
carry_next f start xs i ys now x y after h e g w = record {
  is =
      step_ok (each_with f start xs) (each_with f now (drop i xs)) (f now x) (λ s. each_with f s (drop (i + 1) xs)) ys y after w.is
      (ap (each_with f now) (next_item xs i x h e)) g;
}

pub carry_end : {A B S : Type 0} (f : S → A → Result (B × S) Refused) (start : S) (xs : List A) (i : ℕ) (ys : List B) (now : S) → length xs ≤ i → Carried f start xs i ys now → each_with f start xs ≡ Ok (ys, now)
carry_end f start xs i ys now h w =
    w.is ∙ ap (λ r. each_with f now r >>= behind ys) (drop_all i xs h) ∙ ap (λ l. Ok (l, now)) (append-nil ys)

pub carry_exit : {A B S : Type 0} (f : S → A → Result (B × S) Refused) (start : S) (xs : List A) (i : ℕ) (ys : List B) (now : S) (x : A) (e : Fail Refused) → i < length xs → x ≡ get_or xs i x → Carried f start xs i ys now → Gives {T = B × S} (Err e) (f now x) → Gives {T = List B × S} (Err e) (each_with f start xs)
carry_exit f start xs i ys now x e h at w g =
    fault_is_last (f now x) (each_with f start xs) e g
    (λ fault is.
    step_fault (each_with f start xs) (each_with f now (drop i xs)) (f now x) (λ s. each_with f s (drop (i + 1) xs)) ys fault w.is
    (ap (each_with f now) (next_item xs i x h at)) is)

-- `each_with_from`, from 0 on: the same, with the number of each item
pub record Counted {A B S : Type 0} (f : ℕ → S → A → Result (B × S) Refused) (start : S) (xs : List A) (i : ℕ) (ys : List B) (now : S) : Type 0 where
  pub is : each_with_from f 0 start xs ≡ (each_with_from f i now (drop i xs) >>= behind ys)

pub count_start : {A B S : Type 0} (f : ℕ → S → A → Result (B × S) Refused) (start : S) (xs : List A) → Counted f start xs 0 [] start
count_start f start xs = record { is = begun (each_with_from f 0 start xs) }

pub count_next : {A B S : Type 0} (f : ℕ → S → A → Result (B × S) Refused) (start : S) (xs : List A) (i : ℕ) (ys : List B) (now : S) (x : A) (y : B) (after : S) → i < length xs → x ≡ get_or xs i x → f i now x ≡ Ok (y, after) → Counted f start xs i ys now → Counted f start xs (i + 1) (ys ++ y ∷ []) after
count_next f start xs i ys now x y after h e g w = record {
  is =
      step_ok (each_with_from f 0 start xs) (each_with_from f i now (drop i xs)) (f i now x) (λ s. each_with_from f (i + 1) s (drop (i + 1) xs)) ys y after w.is
      (ap (each_with_from f i now) (next_item xs i x h e)) g;
}

pub count_end : {A B S : Type 0} (f : ℕ → S → A → Result (B × S) Refused) (start : S) (xs : List A) (i : ℕ) (ys : List B) (now : S) → length xs ≤ i → Counted f start xs i ys now → each_with_from f 0 start xs ≡ Ok (ys, now)
count_end f start xs i ys now h w =
    w.is ∙ ap (λ r. each_with_from f i now r >>= behind ys) (drop_all i xs h) ∙ ap (λ l. Ok (l, now)) (append-nil ys)

pub count_exit : {A B S : Type 0} (f : ℕ → S → A → Result (B × S) Refused) (start : S) (xs : List A) (i : ℕ) (ys : List B) (now : S) (x : A) (e : Fail Refused) → i < length xs → x ≡ get_or xs i x → Counted f start xs i ys now → Gives {T = B × S} (Err e) (f i now x) → Gives {T = List B × S} (Err e) (each_with_from f 0 start xs)
count_exit f start xs i ys now x e h at w g =
    fault_is_last (f i now x) (each_with_from f 0 start xs) e g
    (λ fault is.
    step_fault (each_with_from f 0 start xs) (each_with_from f i now (drop i xs)) (f i now x) (λ s. each_with_from f (i + 1) s (drop (i + 1) xs)) ys fault w.is
    (ap (each_with_from f i now) (next_item xs i x h at)) is)
