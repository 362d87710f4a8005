use Rattle.std.proofs.Common.{◌∷◌, Ok, Err, refl, ap, ◌∙◌}
use Rattle.mq_lexer.specs.declared.keywords.Keyword.TheVariants as word
use Rattle.mq_ast.specs.Prelude.{Name, StmtE, Word, stmt_compare}
use Rattle.mq_parse_words.specs.NameLemmas.{named}
use Rattle.mq_parse_stmt.proofs.LastLemmas.{read_all, last_names}
use Rattle.mq_parse_stmt.proofs.WholeLemmas.{leave, tree_at}
use Rattle.mq_parse_stmt.proofs.StmtLemmas.{compare_no_name, compare_no_under, compare_no_scenarios}
use Rattle.mq_parse_stmt.proofs.scenarios.read_compare.Goals as goal

pub returns-in_err-view : goal.returns-in_err-view
returns-in_err-view c =
    leave StmtE c.from_residual.result c.in_err-view.field-0.0 c.from_residual.ensures.1 refl c.in_err-view.ensures compare_no_name

pub returns-in_err-list : goal.returns-in_err-list
returns-in_err-list c =
    leave StmtE c.from_residual-in_err-list.result c.in_err-list.field-0.0 c.from_residual-in_err-list.ensures.1 (ap (λ r. Word word.Compare ∷ r) (named c.in_ok-view.ensures.2)) c.in_err-list.ensures compare_no_under

pub returns-in_err-scenarios : goal.returns-in_err-scenarios
returns-in_err-scenarios c =
    leave StmtE c.from_residual-in_err-scenarios.result c.in_err-scenarios.field-0.0 c.from_residual-in_err-scenarios.ensures.1 (ap (λ r. Word word.Compare ∷ r) (named c.in_ok-view.ensures.2 ∙ ap (λ r. Name c.in_ok-view.view ∷ r) c.in_ok-list.ensures.2)) (read_all last_names c.args.t.now c.in_ok-list.list c.read_list.result (Err c.in_err-scenarios.field-0.0) c.read_list.ensures c.in_err-scenarios.ensures) compare_no_scenarios

pub returns : goal.returns
returns c =
    tree_at StmtE refl (ap (λ r. Word word.Compare ∷ r) (named c.in_ok-view.ensures.2 ∙ ap (λ r. Name c.in_ok-view.view ∷ r) c.in_ok-list.ensures.2)) (stmt_compare (read_all last_names c.args.t.now c.in_ok-list.list c.read_list.result (Ok c.in_ok-scenarios.scenarios) c.read_list.ensures c.in_ok-scenarios.ensures))
