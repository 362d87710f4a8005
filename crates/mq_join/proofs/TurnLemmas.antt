-- Steps that are taken for each item of a list, one after another.
use Rattle.std.proofs.Common.{◌≡◌, ℕ, suc, ◌+◌, ◌-◌, ◌<◌, ◌≤◌, List, [], ◌∷◌, ◌++◌, Result, Ok, Err, refl, sym, ap, ◌∙◌, arith}
use Rattle.std.specs.List.{flat_map, range_with_len}
use Rattle.mq_values.specs.Answers.{Gives}
use Rattle.mq_values.specs.declared.memory.Fail.{Fail}
use Rattle.mq_values.specs.declared.memory.Fail.TheVariants as fail
use Rattle.mq_ir.specs.Results.{◌>>=◌, each_in_turn}

-- where each fault of the inner call is the outer one's
pub exit : {T U E : Type 0} (inner : Result T E) (outer : Result U E) (e : Fail E) → Gives {T = T} (Err e) inner → ((fault : E) → inner ≡ Err fault → outer ≡ Err fault) → Gives {T = U} (Err e) outer
exit inner outer (fail.Cause fault) h f = f fault h
exit inner outer fail.Memory h f = tt

pub bind_ok : {S E : Type 0} (r : Result S E) → (r >>= (λ s. Ok s)) ≡ r
bind_ok (Ok s) = refl
bind_ok (Err e) = refl

-- a step that is followed by one walk and then by another
then_both : {S E : Type 0} (r : Result S E) (both first second : S → Result S E) → ((t : S) → both t ≡ (first t >>= second)) → (r >>= both) ≡ ((r >>= first) >>= second)
then_both (Ok t) both first second h = h t
then_both (Err e) both first second h = refl

pub turns_append : {A S E : Type 0} (f : A → S → Result S E) (xs ys : List A) (s : S) → each_in_turn f (xs ++ ys) s ≡ (each_in_turn f xs s >>= each_in_turn f ys)
turns_append f [] ys s = refl
turns_append f (x ∷ xs) ys s = then_both (f x s) (each_in_turn f (xs ++ ys)) (each_in_turn f xs) (each_in_turn f ys) (λ t. turns_append f xs ys t)

-- what follows a step is the same
pub then_same : {S E : Type 0} (r : Result S E) (one other : S → Result S E) → ((t : S) → one t ≡ other t) → (r >>= one) ≡ (r >>= other)
then_same (Ok t) one other h = h t
then_same (Err e) one other h = refl

-- a walk over lists that are put one behind another is a walk of walks
pub turns_flat : {A B S E : Type 0} (f : B → S → Result S E) (g : A → List B) (xs : List A) (s : S)
    → each_in_turn f (flat_map g xs) s ≡ each_in_turn (λ x t. each_in_turn f (g x) t) xs s
turns_flat f g [] s = refl
turns_flat f g (x ∷ xs) s =
    turns_append f (g x) (flat_map g xs) s
    ∙ then_same (each_in_turn f (g x) s) (each_in_turn f (flat_map g xs)) (each_in_turn (λ x t. each_in_turn f (g x) t) xs) (λ t. turns_flat f g xs t)

-- a walk over the numbers below n that stands at i
abbrev pub rest_of : {S E : Type 0} → (ℕ → S → Result S E) → ℕ → ℕ → S → Result S E
rest_of f n i s = each_in_turn f (range_with_len i (n - i)) s

rest_is : {S E : Type 0} (f : ℕ → S → Result S E) (n i : ℕ) (s : S) → i < n → rest_of f n i s ≡ (f i s >>= rest_of f n (i + 1))
rest_is f n i s h = let e : n - i ≡ suc (n - (i + 1)) = omega arith in ap (λ k. each_in_turn f (range_with_len i k) s) e

pub rest_next : {S E : Type 0} (f : ℕ → S → Result S E) (n i : ℕ) (s t : S) → i < n → f i s ≡ Ok t → rest_of f n (i + 1) t ≡ rest_of f n i s
rest_next f n i s t h g = sym (rest_is f n i s h ∙ ap (λ r. r >>= rest_of f n (i + 1)) g)

pub rest_fault : {S E : Type 0} (f : ℕ → S → Result S E) (n i : ℕ) (s : S) (e : E) → i < n → f i s ≡ Err e → rest_of f n i s ≡ Err e
rest_fault f n i s e h g = rest_is f n i s h ∙ ap (λ r. r >>= rest_of f n (i + 1)) g

pub rest_end : {S E : Type 0} (f : ℕ → S → Result S E) (n i : ℕ) (s : S) → n ≤ i → rest_of f n i s ≡ Ok s
rest_end f n i s h = let e : n - i ≡ 0 = omega arith in ap (λ k. each_in_turn f (range_with_len i k) s) e
