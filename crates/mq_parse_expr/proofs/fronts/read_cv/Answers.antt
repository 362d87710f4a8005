use Rattle.std.proofs.Common.{◌∷◌, ap, ◌∙◌, arith}
use Rattle.mq_parse_words.specs.StepLemmas.{quit, here, there}
use Rattle.mq_parse_words.specs.Reading.{Anywhere}
use Rattle.mq_parse_expr.proofs.FrontLemmas.{cv_no_open, cv_no_name, cv_no_close}
use Rattle.mq_lexer.specs.declared.keywords.Keyword.TheVariants as word
use Rattle.mq_ast.specs.Tokens.{Word, Name, opener}
use Rattle.mq_ast.specs.GrammarExpression.{prim_cv, prim_cv_name}
use Rattle.mq_parse_words.specs.NameLemmas.{named}
use Rattle.mq_parse_words.specs.Fronts.{Behind}
use Rattle.mq_parse_expr.proofs.fronts.read_cv.Goals as goal

pub returns-in_err-open : goal.returns-in_err-open
returns-in_err-open c =
    quit (Behind (Word word.Cv)) c.args.t.now c.args.at c.from_residual.result c.in_err-open.field-0.0 c.from_residual.ensures.1 c.in_err-open.ensures (cv_no_open)

pub returns-in-Some : goal.returns-in-Some
returns-in-Some c =
    let o = c.in_ok-open.ensures in
    let s = c.in-Some.ensures in
    (omega (arith, o.0, s.0), s.1, there (Behind (Word word.Cv)) (o.2 ∙ ap (λ r. opener ∷ r) s.2) prim_cv, tt)

pub returns-in_err-name : goal.returns-in_err-name
returns-in_err-name c =
    quit (Behind (Word word.Cv)) c.args.t.now c.args.at c.from_residual-in_err-name.result c.in_err-name.field-0.0 c.from_residual-in_err-name.ensures.1 c.in_err-name.ensures (λ h. here (Behind (Word word.Cv)) Anywhere c.in_ok-open.ensures.2 (cv_no_name c.in_default.ensures h))

pub returns-in_err-to : goal.returns-in_err-to
returns-in_err-to c =
    quit (Behind (Word word.Cv)) c.args.t.now c.args.at c.from_residual-in_err-to.result c.in_err-to.field-0.0 c.from_residual-in_err-to.ensures.1 c.in_err-to.ensures (λ h. here (Behind (Word word.Cv)) Anywhere (c.in_ok-open.ensures.2 ∙ ap (λ r. opener ∷ r) (named c.in_ok-name.ensures.2)) (cv_no_close h))

pub returns : goal.returns
returns c =
    let o = c.in_ok-open.ensures in
    let n = c.in_ok-name.ensures in
    let e = c.in_ok-to.ensures in
    (omega (arith, o.0, n.0, e.0), e.1, there (Behind (Word word.Cv)) (o.2 ∙ ap (λ r. opener ∷ r) (named n.2 ∙ ap (λ r. Name c.in_ok-name.name ∷ r) e.2)) prim_cv_name, tt)
