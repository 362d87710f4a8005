use Rattle.std.proofs.Common.{arith}
use Rattle.mq_parse_words.specs.StepLemmas.{quit, here, there}
use Rattle.mq_parse_words.specs.Reading.{Anywhere}
use Rattle.mq_parse_expr.proofs.FrontLemmas.{as_no_as, as_no_kind, as_no_close}
use Rattle.mq_ast.specs.GrammarNames.{KindE}
use Rattle.mq_parse_words.specs.StepLemmas.{till}
use Rattle.mq_parse_words.specs.Fronts.{AsKind, as_kind}
use Rattle.mq_parse_expr.proofs.fronts.read_as_kind.Goals as goal

pub returns-in_err-mid : goal.returns-in_err-mid
returns-in_err-mid c =
    quit AsKind c.args.t.now c.args.at c.from_residual.result c.in_err-mid.field-0.0 c.from_residual.ensures.1 c.in_err-mid.ensures (as_no_as)

pub returns-in_err-kind : goal.returns-in_err-kind
returns-in_err-kind c =
    quit AsKind c.args.t.now c.args.at c.from_residual-in_err-kind.result c.in_err-kind.field-0.0 c.from_residual-in_err-kind.ensures.1 c.in_err-kind.ensures (λ h. here AsKind Anywhere c.in_ok-mid.ensures.2 (as_no_kind h))

pub returns-in_err-to : goal.returns-in_err-to
returns-in_err-to c =
    quit AsKind c.args.t.now c.args.at c.from_residual-in_err-to.result c.in_err-to.field-0.0 c.from_residual-in_err-to.ensures.1 c.in_err-to.ensures (λ h. here AsKind Anywhere c.in_ok-mid.ensures.2 (as_no_close c.in_ok-kind.ensures.2 h))

pub returns : goal.returns
returns c =
    let m = c.in_ok-mid.ensures in
    let k = c.in_ok-kind.ensures in
    let e = c.in_ok-to.ensures in
    (omega (arith, m.0, k.0, e.0), e.1, there AsKind m.2 (as_kind (till KindE e.2 k.2)), tt)
