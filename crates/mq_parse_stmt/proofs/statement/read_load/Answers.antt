use Rattle.std.proofs.Common.{◌∷◌, Ok, Err, refl, ap, ◌∙◌}
use Rattle.mq_lexer.specs.declared.keywords.Keyword.TheVariants as word
use Rattle.mq_ast.specs.Prelude.{Name, StmtE, Word, stmt_load}
use Rattle.mq_parse_stmt.proofs.PieceLemmas.{word_named, texted}
use Rattle.mq_parse_stmt.proofs.LastLemmas.{read_all, last_text}
use Rattle.mq_parse_stmt.proofs.WholeLemmas.{leave, tree_at}
use Rattle.mq_parse_stmt.proofs.StmtLemmas.{load_no_name, load_no_from, load_no_text}
use Rattle.mq_parse_stmt.proofs.statement.read_load.Goals as goal

pub returns-in_err-name : goal.returns-in_err-name
returns-in_err-name c =
    leave StmtE c.from_residual.result c.in_err-name.field-0.0 c.from_residual.ensures.1 refl c.in_err-name.ensures load_no_name

pub returns-in_err-text : goal.returns-in_err-text
returns-in_err-text c =
    leave StmtE c.from_residual-in_err-text.result c.in_err-text.field-0.0 c.from_residual-in_err-text.ensures.1 (ap (λ r. Word word.Load ∷ r) (word_named c.in_ok-name.ensures.2)) c.in_err-text.ensures load_no_from

pub returns-in_err-file : goal.returns-in_err-file
returns-in_err-file c =
    leave StmtE c.from_residual-in_err-file.result c.in_err-file.field-0.0 c.from_residual-in_err-file.ensures.1 (ap (λ r. Word word.Load ∷ r) (word_named c.in_ok-name.ensures.2 ∙ ap (λ r. Word word.Into ∷ Name c.in_ok-name.name ∷ r) c.in_ok-text.ensures.2)) (read_all last_text c.args.t.now c.in_ok-text.text c.read_text.result (Err c.in_err-file.field-0.0) c.read_text.ensures c.in_err-file.ensures) load_no_text

pub returns : goal.returns
returns c =
    tree_at StmtE refl (ap (λ r. Word word.Load ∷ r) (word_named c.in_ok-name.ensures.2 ∙ ap (λ r. Word word.Into ∷ Name c.in_ok-name.name ∷ r) (c.in_ok-text.ensures.2 ∙ ap (λ r. Word word.From ∷ r) (texted (read_all last_text c.args.t.now c.in_ok-text.text c.read_text.result (Ok c.in_ok-file.file) c.read_text.ensures c.in_ok-file.ensures))))) stmt_load
