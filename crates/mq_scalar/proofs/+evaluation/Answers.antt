use Rattle.std.proofs.Common.{map, Ok, Err, refl, ◌∙◌}
use Rattle.std.specs.Option.{option_map}
use Rattle.std.proofs.lemmas.Result.{err_from_is_err_and}
use Rattle.mq_ir.specs.Conditions.{arm_taken, or_else}
use Rattle.mq_ir.specs.Expression.{worth_of}
use Rattle.mq_ir.specs.PartLaws.{arm_found}
use Rattle.mq_scalar.proofs.CaseLemmas.{case_of_parts}
use Rattle.mq_scalar.proofs.ExitLemmas.{exit}
use Rattle.mq_scalar.proofs.+evaluation.Goals as goal

pub evaluate::worth-returns-in_err-taken-in-Case-clause-exact : goal.evaluate::worth-returns-in_err-taken-in-Case-clause-exact
evaluate::worth-returns-in_err-taken-in-Case-clause-exact g t c =
    let leaves = g.V.Env.gives c.args.env.now in
    let between = g.V.Env.gives c.eval_if.new.env in
    let v = c.in_ok-subject-in-Case.subject in
    let lent = c.as_slice-in-Case.result.now in
    let p = err_from_is_err_and c.from_residual-in_err-taken-in-Case.result c.from_residual-in_err-taken-in-Case.ensures.1 in
    rw (p.1, p.2)
    (exit (arm_taken v (map (arm_found between) lent)) (worth_of leaves c.args.e.now) c.in_err-taken-in-Case.field-0.0 c.in_err-taken-in-Case.ensures.exact
    (λ fault h. case_of_parts leaves between leaves c.args.e.now _ _ lent _ v (Err fault) (Err fault) c.in-Case.is c.as_slice-in-Case.ensures
    c.eval_if.ensures.same refl c.in_ok-subject-in-Case.ensures.exact h refl))

pub evaluate::worth-returns-in_err-or_else-in-Case-clause-exact : goal.evaluate::worth-returns-in_err-or_else-in-Case-clause-exact
evaluate::worth-returns-in_err-or_else-in-Case-clause-exact g t c =
    let leaves = g.V.Env.gives c.args.env.now in
    let between = g.V.Env.gives c.eval_if.new.env in
    let after = g.V.Env.gives c.arm_taken.new.env in
    let v = c.in_ok-subject-in-Case.subject in
    let taken = c.in_ok-taken-in-Case.taken in
    let lent = c.as_slice-in-Case.result.now in
    let p = err_from_is_err_and c.from_residual-in_err-or_else-in-Case.result c.from_residual-in_err-or_else-in-Case.ensures.1 in
    rw (p.1, p.2)
    (exit (or_else taken (option_map (worth_of after) c.in-Case.otherwise)) (worth_of leaves c.args.e.now) c.in_err-or_else-in-Case.field-0.0 c.in_err-or_else-in-Case.ensures.exact
    (λ fault h. case_of_parts leaves between after c.args.e.now _ _ lent _ v (Ok taken) (Err fault) c.in-Case.is c.as_slice-in-Case.ensures
    c.eval_if.ensures.same (c.arm_taken.ensures.same ∙ c.eval_if.ensures.same) c.in_ok-subject-in-Case.ensures.exact c.in_ok-taken-in-Case.ensures.exact h))

pub evaluate::worth-returns-in_ok-or_else-in-Case-clause-exact : goal.evaluate::worth-returns-in_ok-or_else-in-Case-clause-exact
evaluate::worth-returns-in_ok-or_else-in-Case-clause-exact g t c =
    case_of_parts (g.V.Env.gives c.args.env.now) (g.V.Env.gives c.eval_if.new.env) (g.V.Env.gives c.arm_taken.new.env) c.args.e.now _ _
    c.as_slice-in-Case.result.now _ c.in_ok-subject-in-Case.subject (Ok c.in_ok-taken-in-Case.taken) (Ok c.in_ok-or_else-in-Case.field-0)
    c.in-Case.is c.as_slice-in-Case.ensures c.eval_if.ensures.same (c.arm_taken.ensures.same ∙ c.eval_if.ensures.same)
    c.in_ok-subject-in-Case.ensures.exact c.in_ok-taken-in-Case.ensures.exact c.in_ok-or_else-in-Case.ensures.exact
