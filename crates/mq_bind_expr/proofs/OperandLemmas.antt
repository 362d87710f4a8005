-- Operands as the walk goes over them: each was lent from its tree, at a position inside.
use Rattle.std.proofs.Common.{◌≡◌, ◌∙◌, List, Result, Ok, Err, refl, sym}
use Rattle.mq_values.specs.Answers.{Gives}
use Rattle.mq_values.specs.declared.faults.Refused.{Refused}
use Rattle.mq_values.specs.declared.memory.Fail.{Fail}
use Rattle.mq_ast.specs.declared.expressions.E.{E}
use Rattle.mq_ir.specs.Results.{◌>>=◌, each}
use Rattle.mq_bind_scopes.specs.declared.scopes.Position.{Position}
use Rattle.mq_bind_scopes.specs.declared.scopes.Scope.{Scope}
use Rattle.mq_bind_expr.specs.ExpressionWalk.{bound}
use Rattle.mq_bind_expr.proofs.CaseWalkLemmas.{also_gives}

pub as_lent : (scope : Scope) (x lent : E) (within at : Position) → lent ≡ x → at ≡ within → bound scope x within ≡ bound scope lent at
as_lent scope x lent within at a b = λ i. bound scope (sym a i) (sym b i)

pub each_as_lent : {A B : Type 0} (f : Position → A → Result B Refused) (xs lent : List A) (within at : Position) →
    lent ≡ xs → at ≡ within → each (f within) xs ≡ each (f at) lent
each_as_lent f xs lent within at a b = λ i. each (f (sym b i)) (sym a i)

-- two answers together
abbrev pub pair_of : {A B : Type 0} → Result A Refused → Result B Refused → Result (A × B) Refused
pair_of a b = a >>= (λ x. b >>= (λ y. Ok (x, y)))

pub pair_step : {A B C : Type 0} (a : Result A Refused) (b : Result B Refused) (step : A → B → Result C Refused) →
    (a >>= (λ x. b >>= step x)) ≡ (pair_of a b >>= (λ p. step p.0 p.1))
pair_step (Ok x) (Ok y) step = refl
pair_step (Ok x) (Err e) step = refl
pair_step (Err e) b step = refl

pub triple_step : {A B C D : Type 0} (a : Result A Refused) (b : Result B Refused) (c : Result C Refused) (step : A → B → C → Result D Refused) →
    (a >>= (λ x. b >>= (λ y. c >>= step x y))) ≡ (pair_of a (pair_of b c) >>= (λ p. step p.0 p.1.0 p.1.1))
triple_step (Ok x) (Ok y) (Ok z) step = refl
triple_step (Ok x) (Ok y) (Err e) step = refl
triple_step (Ok x) (Err e) c step = refl
triple_step (Err e) b c step = refl

-- so what follows them as lent follows them in the tree
pub follows_two : {A B C : Type 0} (r : Result C (Fail Refused)) (whole : Result C Refused) (a c : Result A Refused) (b d : Result B Refused) (step : A → B → Result C Refused) →
    whole ≡ (a >>= (λ x. b >>= step x)) → a ≡ c → b ≡ d → Gives r (pair_of c d >>= (λ s. step s.0 s.1)) → Gives r whole
follows_two r whole a c b d step w p q =
    also_gives r (pair_of c d >>= (λ s. step s.0 s.1)) whole (w ∙ (λ i. p i >>= (λ x. q i >>= step x)) ∙ pair_step c d step)

pub follows_three : {A B C D : Type 0} (r : Result D (Fail Refused)) (whole : Result D Refused) (a d : Result A Refused) (b e : Result B Refused) (c f : Result C Refused) (step : A → B → C → Result D Refused) →
    whole ≡ (a >>= (λ x. b >>= (λ y. c >>= step x y))) → a ≡ d → b ≡ e → c ≡ f → Gives r (pair_of d (pair_of e f) >>= (λ s. step s.0 s.1.0 s.1.1)) → Gives r whole
follows_three r whole a d b e c f step w p q s =
    also_gives r (pair_of d (pair_of e f) >>= (λ s. step s.0 s.1.0 s.1.1)) whole
    (w ∙ (λ i. p i >>= (λ x. q i >>= (λ y. s i >>= step x y))) ∙ triple_step d e f step)
