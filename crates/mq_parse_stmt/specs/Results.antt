-- What is made of what a reader gave.
use Rattle.std.specs.Prelude.{◌≡◌, ◌≢◌, ℕ, List, [], Result, Ok, Err}
use Rattle.mq_values.specs.declared.memory.Fail.{Fail}
use Rattle.mq_values.specs.declared.faults.Refused.{Refused}
use Rattle.mq_lexer.specs.declared.sorts.Token.{Token}
use Rattle.mq_ast.specs.declared.statements.ChangeTree.{ChangeTree}
use Rattle.mq_ast.specs.declared.statements.Stmt.{Stmt}
use Rattle.mq_ast.specs.declared.statements.Stmt.TheVariants as stmt
use Rattle.mq_parse_words.specs.Reading.{from, Fails}

-- What was read, and it ends behind the last token. SYNTAX: it ends before. What was refused stays refused.
abbrev pub Ended : {A : Type 0} → List Token → Result (A × ℕ) (Fail Refused) → Result A (Fail Refused) → Type 0
Ended t (Ok r) (Ok x) = (x ≡ r.0) × (from t r.1 ≡ [])
Ended t (Ok r) (Err f) = Fails f (from t r.1 ≢ [])
Ended t (Err f) result = result ≡ Err f

-- what was read, with a part before it
abbrev pub beside : {A B : Type 0} → A → Result (B × ℕ) (Fail Refused) → Result ((A × B) × ℕ) (Fail Refused)
beside a (Ok r) = Ok ((a, r.0), r.1)
beside a (Err f) = Err f

-- a change that was read, as a statement
abbrev pub changed : Result ChangeTree (Fail Refused) → Result Stmt (Fail Refused)
changed (Ok c) = Ok (stmt.Change c)
changed (Err f) = Err f
