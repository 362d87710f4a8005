-- Answers of calls that are given the answers of others: what is meant is a step behind what was meant there.
use Rattle.std.specs.Prelude.{Result}
use Rattle.mq_values.specs.Answers.{Gives}
use Rattle.mq_values.specs.declared.memory.Fail.{Fail}
use Rattle.mq_ir.specs.Results.{◌>>=◌}

-- a step behind one answer, and behind two
abbrev pub Follows : {A B E : Type 0} → Result A (Fail E) → (A → Result B E) → Result B (Fail E) → Type 0
Follows {A = A} {E = E} a step result = (m : Result A E) → Gives a m → Gives result (m >>= step)

abbrev pub FollowsTwo : {A B C E : Type 0} →
    Result A (Fail E) → Result B (Fail E) → (A → B → Result C E) → Result C (Fail E) → Type 0
FollowsTwo {A = A} {B = B} {E = E} a b step result =
    (m : Result A E) (n : Result B E) → Gives a m → Gives b n → Gives result (m >>= (λ x. n >>= step x))

-- a step behind two and three that were put together
abbrev pub FollowsPair : {A B C E : Type 0} → Result (A × B) (Fail E) → (A → B → Result C E) → Result C (Fail E) → Type 0
FollowsPair {A = A} {B = B} {E = E} pair step result = (m : Result (A × B) E) → Gives pair m → Gives result (m >>= (λ p. step p.0 p.1))

abbrev pub FollowsTriple : {A B C D E : Type 0} → Result (A × (B × C)) (Fail E) → (A → B → C → Result D E) → Result D (Fail E) → Type 0
FollowsTriple {A = A} {B = B} {C = C} {E = E} triple step result =
    (m : Result (A × (B × C)) E) → Gives triple m → Gives result (m >>= (λ p. step p.0 p.1.0 p.1.1))

-- the same answer, held in another way
abbrev pub Repeats : {A E : Type 0} → Result A (Fail E) → Result A (Fail E) → Type 0
Repeats {A = A} {E = E} a result = (m : Result A E) → Gives a m → Gives result m
