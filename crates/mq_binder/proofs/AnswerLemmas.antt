-- What a statement is bound to, or its refusal, is its one answer.
use Rattle.std.proofs.Common.{◌≡◌, ◌≢◌, Result, Ok, Err, refl, sym, ap, ◌∙◌}
use Rattle.mq_values.specs.Answers.{Gives}
use Rattle.mq_values.specs.declared.memory.Fail.{Fail}
use Rattle.mq_values.specs.declared.memory.Fail.TheVariants as fail
use Rattle.mq_ast.specs.declared.expressions.E.{E}
use Rattle.mq_ast.specs.declared.statements.Stmt.{Stmt}
use Rattle.mq_ir.specs.declared.catalog.Catalog.{Catalog}
use Rattle.mq_ir.specs.Results.{◌>>=◌, marked}
use Rattle.mq_bind_scopes.specs.declared.scopes.Found.{Found}
use Rattle.mq_bind_scopes.specs.declared.scopes.Position.{Position}
use Rattle.mq_bind_scopes.specs.declared.scopes.Scope.{Scope}
use Rattle.mq_binder.specs.StatementLaws.{KindOfTree, OneAnswer}
use Rattle.mq_binder.specs.StatementWalk.{statement_bound}

-- an answer that is not want of memory is the meaning
answer_is : {T E : Type 0} (a : Result T (Fail E)) (meant : Result T E) → a ≢ Err fail.Memory → Gives a meant → a ≡ marked fail.Cause meant
answer_is (Ok x) meant n g = sym (ap (marked fail.Cause) g)
answer_is (Err (fail.Cause e)) meant n g = sym (ap (marked fail.Cause) g)
answer_is (Err fail.Memory) meant n g = absurd (n refl)

pub one_answer : (catalog : Catalog) (s : Stmt) → OneAnswer catalog s
one_answer catalog s a b n m g h = answer_is a (statement_bound catalog s) n g ∙ sym (answer_is b (statement_bound catalog s) m h)

pub kind_of_tree : (scope : Scope) (at : Position) (e : E) (f : Found) → KindOfTree scope at e f
kind_of_tree scope at e f h = ap (λ r. r >>= (λ (f : Found). Ok f.kind)) h
