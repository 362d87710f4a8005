use Rattle.std.proofs.Common.{arith}
use Rattle.mq_ast.specs.declared.levels.TheConstants as level
use Rattle.mq_ast.specs.Prelude.{PlainE, Stops, plain}
use Rattle.mq_parse_words.specs.StepLemmas.{quit, here, there, as_value}
use Rattle.mq_parse_query.proofs.SourceLemmas.{plain_no_select, plain_no_shown, plain_no_source}
use Rattle.mq_parse_query.proofs.plain.read_plain.Goals as goal

pub returns-in_err-select : goal.returns-in_err-select
returns-in_err-select c =
    quit PlainE c.args.t.now c.args.at c.from_residual.result c.in_err-select.field-0.0 c.from_residual.ensures.1 c.in_err-select.ensures (plain_no_select)

pub returns-in_err-shown : goal.returns-in_err-shown
returns-in_err-shown c =
    quit PlainE c.args.t.now c.args.at c.from_residual-in_err-shown.result c.in_err-shown.field-0.0 c.from_residual-in_err-shown.ensures.1 c.in_err-shown.ensures (λ h. here PlainE (Stops level.PLAIN) c.in_ok-select.ensures.2 (plain_no_shown h))

pub returns-in_err-source : goal.returns-in_err-source
returns-in_err-source c =
    quit PlainE c.args.t.now c.args.at c.from_residual-in_err-source.result c.in_err-source.field-0.0 c.from_residual-in_err-source.ensures.1 c.in_err-source.ensures (λ h. here PlainE (Stops level.PLAIN) c.in_ok-select.ensures.2 (plain_no_source c.in_ok-shown.ensures.2 h))

pub returns : goal.returns
returns c =
    let b = c.in_ok-select.ensures in
    let x = c.in_ok-shown.ensures in
    let y = c.in_ok-source.ensures in
    (omega (arith, b.0, x.0, y.0), y.1, as_value PlainE c.in_ok-plain_with.ensures (there PlainE b.2 (plain x.2 y.2)), y.3)
