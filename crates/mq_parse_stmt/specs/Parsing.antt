-- What the reader of statements gives.
use Rattle.std.specs.Prelude.{List, Result, Ok, Err, ⊤}
use Rattle.mq_values.specs.declared.memory.Fail.{Fail}
use Rattle.mq_values.specs.declared.memory.Fail.TheVariants as fail
use Rattle.mq_values.specs.declared.faults.Refused.{Refused}
use Rattle.mq_values.specs.declared.faults.Refused.TheVariants as refused
use Rattle.mq_ast.specs.declared.statements.ChangeTree.{ChangeTree}
use Rattle.mq_ast.specs.declared.statements.Stmt.{Stmt}
use Rattle.mq_ast.specs.Prelude.{ChangeE, StmtE, Tok}
use Rattle.mq_parse_words.specs.Reading.{Fails}
use Rattle.mq_parse_stmt.specs.Depth.{TooDeep}

-- no tree of this part of the grammar reads these tokens, all of them
abbrev pub NoTree : {A : Type 0} → (A → List Tok → Type 0) → List Tok → Type 0
NoTree {A} R ts = (a : A) → R a ts → ⊥

-- The tree that reads all of these tokens. SYNTAX: there is none.
abbrev pub WholeOf : {A : Type 0} → (A → List Tok → Type 0) → List Tok → Result A (Fail Refused) → Type 0
WholeOf R ts (Ok a) = R a ts
WholeOf R ts (Err f) = Fails f (NoTree R ts)

-- no statement reads these tokens
abbrev pub NoStmt : List Tok → Type 0
NoStmt ts = NoTree StmtE ts

-- the statement that reads all of these tokens
abbrev pub Whole : List Tok → Result Stmt (Fail Refused) → Type 0
Whole ts result = WholeOf StmtE ts result

-- no change reads these tokens
abbrev pub NoChange : List Tok → Type 0
NoChange ts = NoTree ChangeE ts

-- the change that reads all of these tokens
abbrev pub WholeChange : List Tok → Result ChangeTree (Fail Refused) → Type 0
WholeChange ts result = WholeOf ChangeE ts result

-- The statement that reads all of these tokens, where they are not too deep, and TOO_DEEP where they are. Want of memory says
-- nothing, and nothing else is answered.
abbrev pub Parses : List Tok → Result Stmt (Fail Refused) → Type 0
Parses ts (Ok s) = (TooDeep ts → ⊥) × StmtE s ts
Parses ts (Err fail.Memory) = ⊤
Parses ts (Err (fail.Cause refused.TooDeep)) = TooDeep ts
Parses ts (Err (fail.Cause refused.Syntax)) = (TooDeep ts → ⊥) × NoStmt ts
Parses ts (Err (fail.Cause _)) = ⊥
