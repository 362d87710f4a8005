use Rattle.std.proofs.Common.{Ok, Err, refl, sym}
use Rattle.mq_ast.specs.Prelude.{QueryE, StmtE, stmt_query}
use Rattle.mq_parse_words.specs.StepLemmas.{there}
use Rattle.mq_parse_stmt.proofs.LastLemmas.{read_all, last_query}
use Rattle.mq_parse_stmt.proofs.WholeLemmas.{leave, tree_at}
use Rattle.mq_parse_stmt.proofs.StmtLemmas.{query_no_query}
use Rattle.mq_parse_stmt.proofs.statement.read_rows.Goals as goal

pub returns-in_err-query : goal.returns-in_err-query
returns-in_err-query c =
    leave StmtE c.from_residual.result c.in_err-query.field-0.0 c.from_residual.ensures.1 c.requires (read_all last_query c.args.t.now 0 c.read_query.result (Err c.in_err-query.field-0.0) c.read_query.ensures c.in_err-query.ensures) (λ h. query_no_query (λ q d. h q (there QueryE c.requires d)))

pub returns : goal.returns
returns c =
    tree_at StmtE refl c.requires (stmt_query (there QueryE (sym c.requires) (read_all last_query c.args.t.now 0 c.read_query.result (Ok c.in_ok-query.query) c.read_query.ensures c.in_ok-query.ensures)))
