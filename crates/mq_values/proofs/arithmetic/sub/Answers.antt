use Rattle.std.proofs.Common.{◌-ℤ◌, ◌∙◌, ap, arith, Ok}
use Rattle.mq_values.proofs.StepLemmas.{Brought, combined_some, combined_none}
use Rattle.mq_values.proofs.arithmetic.sub.Goals as goal

pub returns-in-Some : goal.returns-in-Some
returns-in-Some c =
    let k : Brought c.args.a c.args.b c.in-Some-Some.m c.in-Some-Some.n c.max-scale.result c.scale-3.result c.scale-4.result = record {
      scale = omega arith;
      left_scale = c.scale-3.ensures.scale;
      right_scale = c.scale-4.ensures.scale;
      left = c.in-Some-Some.ensures;
      right = c.in-Some-Some.ensures';
    } in
    let h = c.in-Some.ensures in
    ap Ok c.new.ensures ∙ combined_some (λ x y. x -ℤ y) c.args.a c.args.b c.in-Some-Some.m c.in-Some-Some.n c.in-Some.rest c.max-scale.result c.scale-3.result c.scale-4.result k h.0 h.1

pub returns-in-None : goal.returns-in-None
returns-in-None c =
    let k : Brought c.args.a c.args.b c.in-Some-Some.m c.in-Some-Some.n c.max-scale.result c.scale-3.result c.scale-4.result = record {
      scale = omega arith;
      left_scale = c.scale-3.ensures.scale;
      right_scale = c.scale-4.ensures.scale;
      left = c.in-Some-Some.ensures;
      right = c.in-Some-Some.ensures';
    } in
    combined_none (λ x y. x -ℤ y) c.args.a c.args.b c.in-Some-Some.m c.in-Some-Some.n c.max-scale.result c.scale-3.result c.scale-4.result k c.in-None.ensures
