use Rattle.std.proofs.Common.{◌∷◌, ap}
use Rattle.mq_lexer.specs.declared.keywords.Keyword.TheVariants as word
use Rattle.mq_ast.specs.Prelude.{StmtE, Word}
use Rattle.mq_parse_stmt.proofs.WholeLemmas.{whole_at}
use Rattle.mq_parse_stmt.proofs.create.read_create.Goals as goal

pub returns-in-Some : goal.returns-in-Some
returns-in-Some c =
    whole_at StmtE (ap (λ r. Word word.Create ∷ r) c.in-Some.ensures.2) c.read_table.result c.read_table.ensures
