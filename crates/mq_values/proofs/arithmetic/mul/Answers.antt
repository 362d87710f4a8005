use Rattle.std.proofs.Common.{◌≡◌, ◌+◌, ◌∙◌, ap, arith, rules, FitsSigned, Some}
use Rattle.std.specs.Int.{w128}
use Rattle.mq_values.proofs.StepLemmas.{product_step}
use Rattle.mq_values.proofs.arithmetic.mul.Goals as goal

pub returns-in-Some-2 : goal.returns-in-Some-2
returns-in-Some-2 c =
    let f : FitsSigned w128 c.mant.result = search rules in
    let g : FitsSigned w128 c.mant-2.result = search rules in
    let t : FitsSigned w128 c.ten_to.result = search rules in
    let s : c.scale.result + c.scale-2.result ≡ c.args.a.scale + c.args.b.scale = omega arith in
    let same : Some c.in-Some.exact ≡ Some c.in-Some-2.exact = ap Some c.in-Some-2.exact-is in
    c.quotient.ensures ∙ product_step c.args.a c.args.b c.mant.result c.mant-2.result c.in-Some.exact c.ten_to.result (c.scale.result + c.scale-2.result) s (omega arith) c.mant.ensures.value c.mant-2.ensures.value f g c.ten_to.ensures.value t (same ∙ c.in-Some-2.ensures)
