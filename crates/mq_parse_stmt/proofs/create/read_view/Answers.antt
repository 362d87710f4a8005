use Rattle.std.proofs.Common.{◌∷◌, Ok, Err, refl, ap, ◌∙◌}
use Rattle.mq_lexer.specs.declared.keywords.Keyword.TheVariants as word
use Rattle.mq_ast.specs.Prelude.{Name, StmtE, Word, stmt_create_view}
use Rattle.mq_parse_stmt.proofs.PieceLemmas.{word_named}
use Rattle.mq_parse_stmt.proofs.LastLemmas.{read_all, last_query}
use Rattle.mq_parse_stmt.proofs.WholeLemmas.{leave, tree_at}
use Rattle.mq_parse_stmt.proofs.StmtLemmas.{view_no_name, view_no_as, view_no_query}
use Rattle.mq_parse_stmt.proofs.create.read_view.Goals as goal

pub returns-in_err-name : goal.returns-in_err-name
returns-in_err-name c =
    leave StmtE c.from_residual.result c.in_err-name.field-0.0 c.from_residual.ensures.1 refl c.in_err-name.ensures (view_no_name c.requires.table c.requires.scenario)

pub returns-in_err-text : goal.returns-in_err-text
returns-in_err-text c =
    leave StmtE c.from_residual-in_err-text.result c.in_err-text.field-0.0 c.from_residual-in_err-text.ensures.1 (ap (λ r. Word word.Create ∷ r) (word_named c.in_ok-name.ensures.2)) c.in_err-text.ensures view_no_as

pub returns-in_err-query : goal.returns-in_err-query
returns-in_err-query c =
    leave StmtE c.from_residual-in_err-query.result c.in_err-query.field-0.0 c.from_residual-in_err-query.ensures.1 (ap (λ r. Word word.Create ∷ r) (word_named c.in_ok-name.ensures.2 ∙ ap (λ r. Word word.View ∷ Name c.in_ok-name.name ∷ r) c.in_ok-text.ensures.2)) (read_all last_query c.args.t.now c.in_ok-text.text c.read_query.result (Err c.in_err-query.field-0.0) c.read_query.ensures c.in_err-query.ensures) view_no_query

pub returns : goal.returns
returns c =
    tree_at StmtE refl (ap (λ r. Word word.Create ∷ r) (word_named c.in_ok-name.ensures.2 ∙ ap (λ r. Word word.View ∷ Name c.in_ok-name.name ∷ r) c.in_ok-text.ensures.2)) (stmt_create_view (read_all last_query c.args.t.now c.in_ok-text.text c.read_query.result (Ok c.in_ok-query.query) c.read_query.ensures c.in_ok-query.ensures))
