-- What was read whole: facts about tokens that are these, and exits.
use Rattle.std.proofs.Common.{◌≡◌, List, Result, Ok, Err, sym, subst}
use Rattle.std.specs.Result.{IsErrAnd}
use Rattle.mq_values.specs.declared.memory.Fail.{Fail}
use Rattle.mq_values.specs.declared.memory.Fail.TheVariants as fail
use Rattle.mq_values.specs.declared.faults.Refused.{Refused}
use Rattle.mq_values.specs.declared.faults.Refused.TheVariants as refused
use Rattle.mq_ast.specs.declared.statements.Stmt.{Stmt}
use Rattle.mq_ast.specs.Prelude.{Tok}
use Rattle.mq_parse_words.specs.Reading.{Fails}
use Rattle.mq_parse_words.specs.StepLemmas.{exit}
use Rattle.mq_parse_stmt.specs.Depth.{TooDeep}
use Rattle.mq_parse_stmt.specs.Parsing.{NoTree, WholeOf, Whole, Parses}

-- facts about tokens that are these
pub none_at : {A : Type 0} (R : A → List Tok → Type 0) {ts us : List Tok} → ts ≡ us → NoTree R us → NoTree R ts
none_at R e h = let P : List Tok → Type 0 = λ m. NoTree R m in subst P (sym e) h

pub whole_at : {A : Type 0} (R : A → List Tok → Type 0) {ts us : List Tok} → ts ≡ us → (r : Result A (Fail Refused)) → WholeOf R us r → WholeOf R ts r
whole_at R e r h = let P : List Tok → Type 0 = λ m. WholeOf R m r in subst P (sym e) h

pub tree_at : {A : Type 0} (R : A → List Tok → Type 0) {a b : A} {ts us : List Tok} → a ≡ b → ts ≡ us → R b us → R a ts
tree_at {A} R {a} {b} {ts} f e d = let P : List Tok → Type 0 = λ m. R b m in let Q : A → Type 0 = λ x. R x ts in subst Q (sym f) (subst P (sym e) d)

-- an exit by `?` of what is read whole: the error of a part, the tokens up to it, and why there is then no tree
pub leave : {A P : Type 0} (R : A → List Tok → Type 0) {ts us : List Tok} (r : Result A (Fail Refused)) (f : Fail Refused) → IsErrAnd r (λ y. y ≡ f) → ts ≡ us → Fails f P → (P → NoTree R us) → WholeOf R ts r
leave R (Ok _) f e p g h = absurd e
leave R {ts} (Err y) f e p g h = let Q : Fail Refused → Type 0 = λ z. Fails z (NoTree R ts) in subst Q (sym e) (exit f g (λ x. none_at R p (h x)))

-- where the tokens are not too deep
pub parses : (ts : List Tok) (r : Result Stmt (Fail Refused)) → (TooDeep ts → ⊥) → Whole ts r → Parses ts r
parses ts (Ok s) h d = (h, d)
parses ts (Err fail.Memory) h d = tt
parses ts (Err (fail.Cause refused.Syntax)) h d = (h, d)
parses ts (Err (fail.Cause _)) h d = absurd d
