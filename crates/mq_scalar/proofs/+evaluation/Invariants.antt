use Rattle.std.proofs.Common.{◌≡◌, map, drop}
use Rattle.mq_values.specs.declared.operators.CmpOp.TheVariants.{Eq}
use Rattle.mq_ir.specs.Conditions.{conjunction, disjunction, compared_to, arm_taken}
use Rattle.mq_ir.specs.Expression.{worth_of}
use Rattle.mq_ir.specs.Operators.{added, multiplied, chained}
use Rattle.mq_ir.specs.PartLaws.{term_found, factor_found, arm_found}
use Rattle.mq_scalar.proofs.LoopLemmas.{and_left, or_left}
use Rattle.mq_scalar.proofs.+evaluation.Given as goal

abbrev pub invariant-chains::sum-loop-term : goal.invariant-chains::sum-loop-term
invariant-chains::sum-loop-term g l = record {
  same : g.V.Env.gives l.env ≡ g.V.Env.gives l.fn.env;
  meant : chained added l.total (map (term_found (g.V.Env.gives l.fn.env)) (drop l.term-index l.terms)) ≡ chained added l.fn.first (map (term_found (g.V.Env.gives l.fn.env)) l.terms);
}

abbrev pub invariant-chains::product-loop-term : goal.invariant-chains::product-loop-term
invariant-chains::product-loop-term g l = record {
  same : g.V.Env.gives l.env ≡ g.V.Env.gives l.fn.env;
  meant : chained multiplied l.total (map (factor_found (g.V.Env.gives l.fn.env)) (drop l.term-index l.terms)) ≡ chained multiplied l.fn.first (map (factor_found (g.V.Env.gives l.fn.env)) l.terms);
}

abbrev pub invariant-conditions::all_hold-loop-x : goal.invariant-conditions::all_hold-loop-x
invariant-conditions::all_hold-loop-x g l = record {
  same : g.V.Env.gives l.env ≡ g.V.Env.gives l.fn.env;
  meant : and_left l.so_far (conjunction (map (worth_of (g.V.Env.gives l.fn.env)) (drop l.x-index l.xs))) ≡ conjunction (map (worth_of (g.V.Env.gives l.fn.env)) l.xs);
}

abbrev pub invariant-conditions::any_holds-loop-x : goal.invariant-conditions::any_holds-loop-x
invariant-conditions::any_holds-loop-x g l = record {
  same : g.V.Env.gives l.env ≡ g.V.Env.gives l.fn.env;
  meant : or_left l.so_far (disjunction (map (worth_of (g.V.Env.gives l.fn.env)) (drop l.x-index l.xs))) ≡ disjunction (map (worth_of (g.V.Env.gives l.fn.env)) l.xs);
}

abbrev pub invariant-comparisons::is_member-loop-member : goal.invariant-comparisons::is_member-loop-member
invariant-comparisons::is_member-loop-member g l = record {
  same : g.V.Env.gives l.env ≡ g.V.Env.gives l.fn.env;
  meant : or_left l.so_far (disjunction (map (compared_to Eq l.v) (map (worth_of (g.V.Env.gives l.fn.env)) (drop l.member-index l.members)))) ≡ disjunction (map (compared_to Eq l.v) (map (worth_of (g.V.Env.gives l.fn.env)) l.members));
}

abbrev pub invariant-cases::arm_taken-loop-arm : goal.invariant-cases::arm_taken-loop-arm
invariant-cases::arm_taken-loop-arm g l = record {
  same : g.V.Env.gives l.env ≡ g.V.Env.gives l.fn.env;
  meant : arm_taken l.subject (map (arm_found (g.V.Env.gives l.fn.env)) (drop l.arm-index l.arms)) ≡ arm_taken l.subject (map (arm_found (g.V.Env.gives l.fn.env)) l.arms);
}
