use Rattle.std.proofs.Common.{arith}
use Rattle.mq_ast.specs.Prelude.{PlainE}
use Rattle.mq_parse_words.specs.StepLemmas.{quit, till}
use Rattle.mq_parse_query.specs.Pieces.{PlainEnd}
use Rattle.mq_parse_query.proofs.RuleLemmas.{plain_no_plain, plain_no_close}
use Rattle.mq_parse_query.proofs.left.read_plain_end.Goals as goal

pub returns-in_err-plain : goal.returns-in_err-plain
returns-in_err-plain c =
    quit PlainEnd c.args.t.now c.args.at c.from_residual.result c.in_err-plain.field-0.0 c.from_residual.ensures.1 c.in_err-plain.ensures (plain_no_plain)

pub returns-in_err-to : goal.returns-in_err-to
returns-in_err-to c =
    quit PlainEnd c.args.t.now c.args.at c.from_residual-in_err-to.result c.in_err-to.field-0.0 c.from_residual-in_err-to.ensures.1 c.in_err-to.ensures (plain_no_close c.in_ok-plain.ensures.2 c.in_ok-plain.ensures.3)

pub returns : goal.returns
returns c =
    let f = c.in_ok-plain.ensures in
    let e = c.in_ok-to.ensures in
    (omega (arith, f.0, e.0), e.1, till PlainE e.2 f.2, tt)
