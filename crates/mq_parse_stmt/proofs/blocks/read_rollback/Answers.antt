use Rattle.std.proofs.Common.{◌∷◌, refl, ap}
use Rattle.mq_lexer.specs.declared.keywords.Keyword.TheVariants as word
use Rattle.mq_ast.specs.Prelude.{StmtE, Word, stmt_rollback}
use Rattle.mq_parse_stmt.proofs.WholeLemmas.{leave, tree_at}
use Rattle.mq_parse_stmt.proofs.StmtLemmas.{rollback_no_more}
use Rattle.mq_parse_stmt.proofs.blocks.read_rollback.Goals as goal

pub returns-in_err-ended : goal.returns-in_err-ended
returns-in_err-ended c =
    leave StmtE c.from_residual.result c.in_err-ended.field-0.0 c.from_residual.ensures.1 refl c.in_err-ended.ensures rollback_no_more

pub returns : goal.returns
returns c =
    tree_at StmtE refl (ap (λ r. Word word.Rollback ∷ r) c.in_ok-ended.ensures) stmt_rollback
