use Rattle.std.proofs.Common.{◌∷◌, ap, ◌∙◌, arith}
use Rattle.mq_ast.specs.Prelude.{RuleFront, MaybeMode, Name, rule_front}
use Rattle.mq_parse_words.specs.StepLemmas.{quit, till}
use Rattle.mq_parse_words.specs.NameLemmas.{named}
use Rattle.mq_parse_query.proofs.RuleLemmas.{front_no_mode, front_no_name, front_no_open}
use Rattle.mq_parse_query.proofs.rules.read_front.Goals as goal

pub returns-in_err-mode : goal.returns-in_err-mode
returns-in_err-mode c =
    quit RuleFront c.args.t.now c.args.at c.from_residual.result c.in_err-mode.field-0.0 c.from_residual.ensures.1 c.in_err-mode.ensures (front_no_mode)

pub returns-in_err-measure : goal.returns-in_err-measure
returns-in_err-measure c =
    quit RuleFront c.args.t.now c.args.at c.from_residual-in_err-measure.result c.in_err-measure.field-0.0 c.from_residual-in_err-measure.ensures.1 c.in_err-measure.ensures (front_no_name c.in_ok-mode.ensures.2 c.in_ok-mode.ensures.3)

pub returns-in_err-to : goal.returns-in_err-to
returns-in_err-to c =
    quit RuleFront c.args.t.now c.args.at c.from_residual-in_err-to.result c.in_err-to.field-0.0 c.from_residual-in_err-to.ensures.1 c.in_err-to.ensures (front_no_open c.in_ok-mode.ensures.2 c.in_ok-mode.ensures.3 (named c.in_ok-measure.ensures.2))

pub returns : goal.returns
returns c =
    let m = c.in_ok-mode.ensures in
    let n = c.in_ok-measure.ensures in
    let e = c.in_ok-to.ensures in
    (omega (arith, m.0, n.0, e.0), e.1, rule_front (till MaybeMode (named n.2 ∙ ap (λ r. Name c.in_ok-measure.measure ∷ r) e.2) m.2), tt)
