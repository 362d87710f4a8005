use Rattle.mq_ast.specs.Prelude.{StmtE}
use Rattle.mq_parse_stmt.proofs.WholeLemmas.{whole_at}
use Rattle.mq_parse_stmt.proofs.statement.read_statement.Goals as goal

pub returns-in-Some : goal.returns-in-Some
returns-in-Some c =
    whole_at StmtE c.in-Some.ensures.2 c.read_create.result c.read_create.ensures

pub returns-in-Some-behind_word : goal.returns-in-Some-behind_word
returns-in-Some-behind_word c =
    whole_at StmtE c.in-Some-behind_word.ensures.2 c.read_drop.result c.read_drop.ensures
