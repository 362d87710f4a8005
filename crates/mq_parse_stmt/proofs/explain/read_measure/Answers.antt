use Rattle.std.proofs.Common.{◌∷◌, ap, ◌∙◌, arith}
use Rattle.mq_lexer.specs.declared.keywords.Keyword.TheVariants as word
use Rattle.mq_ast.specs.Prelude.{Name, NameE, Word}
use Rattle.mq_parse_words.specs.Reading.{Anywhere}
use Rattle.mq_parse_words.specs.StepLemmas.{quit, here, there}
use Rattle.mq_parse_stmt.specs.Pieces.{Measure}
use Rattle.mq_parse_stmt.proofs.PieceLemmas.{beside_gives, word_named, measure_no_view, measure_no_point, measure_no_name, measure_read}
use Rattle.mq_parse_stmt.proofs.explain.read_measure.Goals as goal

pub returns-in_err-view : goal.returns-in_err-view
returns-in_err-view c =
    quit Measure c.args.t.now c.args.at c.from_residual.result c.in_err-view.field-0.0 c.from_residual.ensures.1 c.in_err-view.ensures measure_no_view

pub returns-in_err-behind : goal.returns-in_err-behind
returns-in_err-behind c =
    quit Measure c.args.t.now c.args.at c.from_residual-in_err-behind.result c.in_err-behind.field-0.0 c.from_residual-in_err-behind.ensures.1 c.in_err-behind.ensures (λ h. here Measure Anywhere (word_named c.in_ok-view.ensures.2) (measure_no_point h))

pub returns : goal.returns
returns c =
    let v = c.in_ok-view.ensures in
    let b = c.in_ok-behind.ensures in
    let p = word_named c.in_ok-view.ensures.2 ∙ ap (λ r. Word word.Cell ∷ Name c.in_ok-view.view ∷ r) c.in_ok-behind.ensures.2 in
    rw c.beside.ensures (beside_gives Measure NameE Anywhere c.args.t.now c.args.at c.in_ok-behind.behind c.in_ok-view.view c.read_name.result (omega (arith, v.0, b.0)) (λ m to d. there Measure p (measure_read d)) (λ h. here Measure Anywhere p (measure_no_name h)) c.read_name.ensures)
