-- Steps over a list of which each may offend: the first offence is the answer.
use Rattle.std.specs.Prelude.{ℕ, ◌+◌, List, [], ◌∷◌, ◌++◌, Result, Ok}
use Rattle.mq_values.specs.declared.faults.Refused.{Refused}
use Rattle.mq_ir.specs.Results.{◌>>=◌}

-- what f gives of each item and its number
abbrev pub each_from : {A B : Type 0} → (ℕ → A → Result B Refused) → ℕ → List A → Result (List B) Refused
each_from f n [] = Ok []
each_from f n (x ∷ xs) = f n x >>= (λ y. each_from f (n + 1) xs >>= (λ ys. Ok (y ∷ ys)))

-- what f gives of each item behind what those before it are known by, as their names
abbrev pub each_behind : {A B K : Type 0} → (List K → A → Result B Refused) → (B → K) → List K → List A → Result (List B) Refused
each_behind f key earlier [] = Ok []
each_behind f key earlier (x ∷ xs) =
    f earlier x >>= (λ y. each_behind f key (earlier ++ key y ∷ []) xs >>= (λ ys. Ok (y ∷ ys)))

-- what f gives of each item and of what was gathered before it, with all that was gathered
abbrev pub each_with : {A B S : Type 0} → (S → A → Result (B × S) Refused) → S → List A → Result (List B × S) Refused
each_with f s [] = Ok ([], s)
each_with f s (x ∷ xs) = f s x >>= (λ y. each_with f y.1 xs >>= (λ ys. Ok (y.0 ∷ ys.0, ys.1)))

-- the same, with the number of each item
abbrev pub each_with_from : {A B S : Type 0} → (ℕ → S → A → Result (B × S) Refused) → ℕ → S → List A → Result (List B × S) Refused
each_with_from f n s [] = Ok ([], s)
each_with_from f n s (x ∷ xs) = f n s x >>= (λ y. each_with_from f (n + 1) y.1 xs >>= (λ ys. Ok (y.0 ∷ ys.0, ys.1)))
