-- A loop over a list that hands a state from step to step.
use Rattle.std.proofs.Common.{◌≡◌, ℕ, ◌+◌, ◌<◌, ◌≤◌, List, ◌∷◌, drop, length, get_or, Result, Ok, Err, refl, sym, ap, ◌∙◌, add-one, drop-cons}
use Rattle.std.proofs.lemmas.List.{drop_all}
use Rattle.mq_values.specs.Answers.{Gives}
use Rattle.mq_values.specs.declared.memory.Fail.{Fail}
use Rattle.mq_values.specs.declared.memory.Fail.TheVariants as fail
use Rattle.mq_ir.specs.Results.{◌>>=◌, each_in_turn}

-- where each fault of the inner call is the outer one's
pub fault_is_last : {T U E : Type 0} (inner : Result T E) (outer : Result U E) (e : Fail E) → Gives {T = T} (Err e) inner → ((fault : E) → inner ≡ Err fault → outer ≡ Err fault) → Gives {T = U} (Err e) outer
fault_is_last inner outer (fail.Cause fault) h f = f fault h
fault_is_last inner outer fail.Memory h f = tt

-- a loop over a list goes on at its item number i
pub next_item : {A : Type 0} (xs : List A) (i : ℕ) (x : A) → i < length xs → x ≡ get_or xs i x → drop i xs ≡ x ∷ drop (i + 1) xs
next_item xs i x h e = drop-cons xs i x h ∙ (λ j. sym e j ∷ drop (sym (add-one i) j) xs)

-- `each_in_turn`: the state behind the first i items
pub record Turned {A S E : Type 0} (f : A → S → Result S E) (first : S) (xs : List A) (i : ℕ) (now : S) : Type 0 where
  pub is : each_in_turn f xs first ≡ each_in_turn f (drop i xs) now

pub turn_start : {A S E : Type 0} (f : A → S → Result S E) (first : S) (xs : List A) → Turned f first xs 0 first
turn_start f first xs = record { is = refl }

pub turn_next : {A S E : Type 0} (f : A → S → Result S E) (first : S) (xs : List A) (i : ℕ) (now : S) (x : A) (after : S) → i < length xs → x ≡ get_or xs i x → f x now ≡ Ok after → Turned f first xs i now → Turned f first xs (i + 1) after
turn_next f first xs i now x after h e g w = record {
  is = w.is ∙ ap (λ l. each_in_turn f l now) (next_item xs i x h e) ∙ ap (λ o. o >>= each_in_turn f (drop (i + 1) xs)) g;
}

pub turn_end : {A S E : Type 0} (f : A → S → Result S E) (first : S) (xs : List A) (i : ℕ) (now : S) → length xs ≤ i → Turned f first xs i now → each_in_turn f xs first ≡ Ok now
turn_end f first xs i now h w = w.is ∙ ap (λ l. each_in_turn f l now) (drop_all i xs h)

pub turn_exit : {A S E : Type 0} (f : A → S → Result S E) (first : S) (xs : List A) (i : ℕ) (now : S) (x : A) (e : Fail E) → i < length xs → x ≡ get_or xs i x → Turned f first xs i now → Gives {T = S} (Err e) (f x now) → Gives {T = S} (Err e) (each_in_turn f xs first)
turn_exit f first xs i now x e h at w g =
    fault_is_last (f x now) (each_in_turn f xs first) e g
    (λ fault is. w.is ∙ ap (λ l. each_in_turn f l now) (next_item xs i x h at) ∙ ap (λ o. o >>= each_in_turn f (drop (i + 1) xs)) is)
