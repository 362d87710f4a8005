use Rattle.std.proofs.Common.{◌∷◌, ap, ◌∙◌, arith}
use Rattle.mq_parse_words.specs.StepLemmas.{quit, here, there}
use Rattle.mq_parse_words.specs.Reading.{Anywhere}
use Rattle.mq_parse_expr.proofs.FrontLemmas.{scale_no_comma, scale_no_int, scale_no_close}
use Rattle.mq_ast.specs.Tokens.{Num, comma}
use Rattle.mq_parse_words.specs.NameLemmas.{numbered}
use Rattle.mq_parse_words.specs.Fronts.{ToScale, to_scale}
use Rattle.mq_parse_expr.proofs.fronts.read_to_scale.Goals as goal

pub returns-in_err-mid : goal.returns-in_err-mid
returns-in_err-mid c =
    quit ToScale c.args.t.now c.args.at c.from_residual.result c.in_err-mid.field-0.0 c.from_residual.ensures.1 c.in_err-mid.ensures (scale_no_comma)

pub returns-in_err-scale : goal.returns-in_err-scale
returns-in_err-scale c =
    quit ToScale c.args.t.now c.args.at c.from_residual-in_err-scale.result c.in_err-scale.field-0.0 c.from_residual-in_err-scale.ensures.1 c.in_err-scale.ensures (λ h. here ToScale Anywhere c.in_ok-mid.ensures.2 (scale_no_int h))

pub returns-in_err-to : goal.returns-in_err-to
returns-in_err-to c =
    quit ToScale c.args.t.now c.args.at c.from_residual-in_err-to.result c.in_err-to.field-0.0 c.from_residual-in_err-to.ensures.1 c.in_err-to.ensures (λ h. here ToScale Anywhere (c.in_ok-mid.ensures.2 ∙ ap (λ r. comma ∷ r) (numbered c.in_ok-scale.ensures.2).0) (scale_no_close h))

pub returns : goal.returns
returns c =
    let m = c.in_ok-mid.ensures in
    let k = c.in_ok-scale.ensures in
    let e = c.in_ok-to.ensures in
    (omega (arith, m.0, k.0, e.0), e.1, there ToScale (m.2 ∙ ap (λ r. comma ∷ r) ((numbered k.2).0 ∙ ap (λ r. Num c.in_ok-scale.scale ∷ r) e.2)) (to_scale (numbered k.2).1), tt)
