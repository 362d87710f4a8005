use Rattle.std.proofs.Common.{◌∷◌, ap, ◌∙◌, arith}
use Rattle.mq_lexer.specs.declared.keywords.Keyword.TheVariants as word
use Rattle.mq_ast.specs.Prelude.{Cols, DimsE, Word, dims}
use Rattle.mq_parse_words.specs.Reading.{Anywhere}
use Rattle.mq_parse_words.specs.StepLemmas.{quit, here, there, till}
use Rattle.mq_parse_query.proofs.ModelLemmas.{dims_no_dimension, dims_no_by, dims_no_cols, dims_no_measures}
use Rattle.mq_parse_query.proofs.heads.read_dims.Goals as goal

pub returns-in_err-dimension : goal.returns-in_err-dimension
returns-in_err-dimension c =
    quit DimsE c.args.t.now c.args.at c.from_residual.result c.in_err-dimension.field-0.0 c.from_residual.ensures.1 c.in_err-dimension.ensures (dims_no_dimension)

pub returns-in_err-by : goal.returns-in_err-by
returns-in_err-by c =
    quit DimsE c.args.t.now c.args.at c.from_residual-in_err-by.result c.in_err-by.field-0.0 c.from_residual-in_err-by.ensures.1 c.in_err-by.ensures (λ h. here DimsE Anywhere c.in_ok-dimension.ensures.2 (dims_no_by h))

pub returns-in_err-dims : goal.returns-in_err-dims
returns-in_err-dims c =
    quit DimsE c.args.t.now c.args.at c.from_residual-in_err-dims.result c.in_err-dims.field-0.0 c.from_residual-in_err-dims.ensures.1 c.in_err-dims.ensures (λ h. here DimsE Anywhere (c.in_ok-dimension.ensures.2 ∙ ap (λ r. Word word.Dimension ∷ r) c.in_ok-by.ensures.2) (dims_no_cols h))

pub returns-in_err-to : goal.returns-in_err-to
returns-in_err-to c =
    quit DimsE c.args.t.now c.args.at c.from_residual-in_err-to.result c.in_err-to.field-0.0 c.from_residual-in_err-to.ensures.1 c.in_err-to.ensures (λ h. here DimsE Anywhere (c.in_ok-dimension.ensures.2 ∙ ap (λ r. Word word.Dimension ∷ r) c.in_ok-by.ensures.2) (dims_no_measures c.in_ok-dims.ensures.2 h))

pub returns : goal.returns
returns c =
    let d = c.in_ok-dimension.ensures in
    let b = c.in_ok-by.ensures in
    let x = c.in_ok-dims.ensures in
    let e = c.in_ok-to.ensures in
    (omega (arith, d.0, b.0, x.0, e.0), e.1, there DimsE (d.2 ∙ ap (λ r. Word word.Dimension ∷ r) b.2) (dims (till Cols e.2 x.2)), tt)
