use Rattle.std.proofs.Common.{arith, ◌∙◌, rules, FitsSigned, ◌≡◌, ◌≢◌, pos}
use Rattle.std.specs.Int.{w128}
use Rattle.mq_values.specs.Arithmetic.{quotient_scale}
use Rattle.mq_values.proofs.StepLemmas.{quotient_step}
use Rattle.mq_values.proofs.arithmetic.div.Goals as goal

pub returns-in-Some : goal.returns-in-Some
returns-in-Some c =
    let fits : FitsSigned w128 c.mant-in-Some.result = search rules in
    let ne : c.mant-in-Some.result ≢ pos 0 = search rules in
    let r : c.max-scale.result ≡ quotient_scale c.args.a.scale c.args.b.scale = omega arith in
    c.quotient.ensures ∙ quotient_step c.args.a c.args.b c.in-Some.dividend c.mant-in-Some.result c.max-scale.result c.scale-3.result c.scale-4.result r c.scale-3.ensures.scale c.scale-4.ensures.scale c.mant-in-Some.ensures.value ne fits c.in-Some.ensures
