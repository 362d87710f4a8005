use Rattle.std.proofs.Common.{◌∷◌, refl, ap}
use Rattle.mq_lexer.specs.declared.keywords.Keyword.TheVariants as word
use Rattle.mq_ast.specs.Prelude.{StmtE, Word, stmt_under}
use Rattle.mq_parse_words.specs.NameLemmas.{named}
use Rattle.mq_parse_stmt.proofs.WholeLemmas.{leave, tree_at}
use Rattle.mq_parse_stmt.proofs.StmtLemmas.{under_no_name, under_no_change}
use Rattle.mq_parse_stmt.proofs.scenarios.read_under.Goals as goal

pub returns-in_err-scenario : goal.returns-in_err-scenario
returns-in_err-scenario c =
    leave StmtE c.from_residual.result c.in_err-scenario.field-0.0 c.from_residual.ensures.1 refl c.in_err-scenario.ensures under_no_name

pub returns-in_err-change : goal.returns-in_err-change
returns-in_err-change c =
    leave StmtE c.from_residual-in_err-change.result c.in_err-change.field-0.0 c.from_residual-in_err-change.ensures.1 (ap (λ r. Word word.Under ∷ r) (named c.in_ok-scenario.ensures.2)) c.in_err-change.ensures under_no_change

pub returns : goal.returns
returns c =
    tree_at StmtE refl (ap (λ r. Word word.Under ∷ r) (named c.in_ok-scenario.ensures.2)) (stmt_under c.in_ok-change.ensures)
