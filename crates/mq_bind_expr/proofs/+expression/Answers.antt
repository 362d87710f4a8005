use Rattle.std.proofs.Common.{refl, ap, ◌∙◌}
use Rattle.std.proofs.lemmas.Result.{err_from_is_err_and}
use Rattle.mq_ir.specs.Results.{◌>>=◌, each}
use Rattle.mq_bind_expr.specs.CaseLaws.{found_if_any}
use Rattle.mq_ast.specs.declared.expressions.E.{E}
use Rattle.mq_bind_expr.specs.ExpressionParts.{all_found, prod_found, sum_found}
use Rattle.mq_bind_expr.specs.ExpressionRolls.{arm_found}
use Rattle.mq_bind_expr.specs.OperatorLaws.{bound_between, bound_cmp, bound_in, bound_prod, bound_sum}
use Rattle.mq_bind_expr.specs.OperatorNodes as spec
use Rattle.mq_bind_expr.proofs.OperandLemmas.{as_lent, each_as_lent, follows_three, follows_two, pair_of, triple_step}
use Rattle.mq_bind_expr.specs.ExpressionWalk.{bound}
use Rattle.mq_bind_expr.specs.FunctionNodes.{case_node}
use Rattle.mq_bind_scopes.specs.Positions.{inner}
use Rattle.mq_bind_expr.proofs.AgainLemmas.{asked_exit}
use Rattle.mq_bind_expr.proofs.CaseWalkLemmas.{also_gives, case_parts, none_found}
use Rattle.mq_bind_expr.proofs.+expression.Goals as goal

pub walk::found_of-returns-in-Cmp : goal.walk::found_of-returns-in-Cmp
walk::found_of-returns-in-Cmp t c =
    let scope = c.args.scope.now in
    let at = c.args.at in
    let first = bound scope c.get-in-Cmp.result.now c.inner-within.result in
    let second = bound scope c.get-in-Cmp-2.result.now c.inner-within.result in
    follows_two c.cmp_node.result (bound scope c.args.e.now at)
    (bound scope c.in-Cmp.a (inner at)) first
    (bound scope c.in-Cmp.b (inner at)) second (spec.cmp_node c.in-Cmp.op)
    (ap (λ x. bound scope x at) c.in-Cmp.is ∙ bound_cmp scope c.in-Cmp.a c.in-Cmp.op c.in-Cmp.b at)
    (as_lent scope c.in-Cmp.a c.get-in-Cmp.result.now (inner at) c.inner-within.result c.get-in-Cmp.ensures c.inner-within.ensures)
    (as_lent scope c.in-Cmp.b c.get-in-Cmp-2.result.now (inner at) c.inner-within.result c.get-in-Cmp-2.ensures c.inner-within.ensures)
    (c.cmp_node.ensures (pair_of first second) (c.both-sides.ensures first second c.bound_tree-a.ensures c.bound_tree-b.ensures))

pub walk::found_of-returns-in-Between : goal.walk::found_of-returns-in-Between
walk::found_of-returns-in-Between t c =
    let scope = c.args.scope.now in
    let at = c.args.at in
    let first = bound scope c.get-in-Between.result.now c.inner-within.result in
    let second = bound scope c.get-in-Between-2.result.now c.inner-within.result in
    let third = bound scope c.get-in-Between-3.result.now c.inner-within.result in
    follows_three c.between_node.result (bound scope c.args.e.now at)
    (bound scope c.in-Between.a (inner at)) first
    (bound scope c.in-Between.low (inner at)) second
    (bound scope c.in-Between.high (inner at)) third (spec.between_node c.in-Between.negated)
    (ap (λ x. bound scope x at) c.in-Between.is ∙ bound_between scope c.in-Between.a c.in-Between.negated c.in-Between.low c.in-Between.high at)
    (as_lent scope c.in-Between.a c.get-in-Between.result.now (inner at) c.inner-within.result c.get-in-Between.ensures c.inner-within.ensures)
    (as_lent scope c.in-Between.low c.get-in-Between-2.result.now (inner at) c.inner-within.result c.get-in-Between-2.ensures c.inner-within.ensures)
    (as_lent scope c.in-Between.high c.get-in-Between-3.result.now (inner at) c.inner-within.result c.get-in-Between-3.ensures c.inner-within.ensures)
    (c.between_node.ensures (pair_of first (pair_of second third))
    (c.both-tested.ensures first (pair_of second third) c.bound_tree-a-in-Between.ensures (c.both-range.ensures second third c.bound_tree-low.ensures c.bound_tree-high.ensures)))

pub walk::found_of-returns-in-InList : goal.walk::found_of-returns-in-InList
walk::found_of-returns-in-InList t c =
    let scope = c.args.scope.now in
    let at = c.args.at in
    let first = bound scope c.get-in-InList.result.now c.inner-within.result in
    let second = all_found scope c.inner-within.result c.as_slice-in-InList.result.now in
    follows_two c.in_node.result (bound scope c.args.e.now at)
    (bound scope c.in-InList.a (inner at)) first
    (all_found scope (inner at) c.in-InList.es) second (spec.in_node c.in-InList.negated)
    (ap (λ x. bound scope x at) c.in-InList.is ∙ bound_in scope c.in-InList.a c.in-InList.negated c.in-InList.es at)
    (as_lent scope c.in-InList.a c.get-in-InList.result.now (inner at) c.inner-within.result c.get-in-InList.ensures c.inner-within.ensures)
    (each_as_lent (λ p (e : E). bound scope e p) c.in-InList.es c.as_slice-in-InList.result.now (inner at) c.inner-within.result c.as_slice-in-InList.ensures c.inner-within.ensures)
    (c.in_node.ensures (pair_of first second) (c.both-listed.ensures first second c.bound_tree-a-in-InList.ensures c.found_each-members.ensures))

pub walk::found_of-returns-in-Sum : goal.walk::found_of-returns-in-Sum
walk::found_of-returns-in-Sum t c =
    let scope = c.args.scope.now in
    let at = c.args.at in
    let first = bound scope c.get-in-Sum.result.now c.inner-within.result in
    let second = each (sum_found scope c.inner-within.result) c.as_slice-in-Sum.result.now in
    follows_two c.sum_node.result (bound scope c.args.e.now at)
    (bound scope c.in-Sum.first (inner at)) first
    (each (sum_found scope (inner at)) c.in-Sum.terms) second spec.sum_node
    (ap (λ x. bound scope x at) c.in-Sum.is ∙ bound_sum scope c.in-Sum.first c.in-Sum.terms at)
    (as_lent scope c.in-Sum.first c.get-in-Sum.result.now (inner at) c.inner-within.result c.get-in-Sum.ensures c.inner-within.ensures)
    (each_as_lent (sum_found scope) c.in-Sum.terms c.as_slice-in-Sum.result.now (inner at) c.inner-within.result c.as_slice-in-Sum.ensures c.inner-within.ensures)
    (c.sum_node.ensures (pair_of first second) (c.both-addends.ensures first second c.bound_tree-first.ensures c.found_terms-terms.ensures))

pub walk::found_of-returns-in-Prod : goal.walk::found_of-returns-in-Prod
walk::found_of-returns-in-Prod t c =
    let scope = c.args.scope.now in
    let at = c.args.at in
    let first = bound scope c.get-in-Prod.result.now c.inner-within.result in
    let second = each (prod_found scope c.inner-within.result) c.as_slice-in-Prod.result.now in
    follows_two c.prod_node.result (bound scope c.args.e.now at)
    (bound scope c.in-Prod.first (inner at)) first
    (each (prod_found scope (inner at)) c.in-Prod.terms) second spec.prod_node
    (ap (λ x. bound scope x at) c.in-Prod.is ∙ bound_prod scope c.in-Prod.first c.in-Prod.terms at)
    (as_lent scope c.in-Prod.first c.get-in-Prod.result.now (inner at) c.inner-within.result c.get-in-Prod.ensures c.inner-within.ensures)
    (each_as_lent (prod_found scope) c.in-Prod.terms c.as_slice-in-Prod.result.now (inner at) c.inner-within.result c.as_slice-in-Prod.ensures c.inner-within.ensures)
    (c.prod_node.ensures (pair_of first second) (c.both-factors.ensures first second c.bound_tree-first-in-Prod.ensures c.found_factors-terms.ensures))

pub walk::found_of-returns-in-Case : goal.walk::found_of-returns-in-Case
walk::found_of-returns-in-Case t c =
    let scope = c.args.scope.now in
    let subject = found_if_any scope c.inner-within.result c.in-Case.of in
    let arms = each (arm_found scope c.inner-within.result) c.as_slice-in-Case.result.now in
    let or_else = found_if_any scope c.inner-within.result c.in-Case.or_else in
    also_gives c.case_node.result (pair_of subject (pair_of arms or_else) >>= (λ s. case_node s.0 s.1.0 s.1.1)) (bound scope c.args.e.now c.args.at)
    (case_parts scope c.args.at c.inner-within.result c.inner-within.result c.inner-within.result c.args.e.now _ _ c.as_slice-in-Case.result.now _
    subject arms or_else
    c.in-Case.is c.as_slice-in-Case.ensures c.inner-within.ensures c.inner-within.ensures c.inner-within.ensures refl refl refl
    ∙ triple_step subject arms or_else case_node)
    (c.case_node.ensures (pair_of subject (pair_of arms or_else))
    (c.both-parts.ensures subject (pair_of arms or_else) c.found_if_any-subject.ensures (c.both-results.ensures arms or_else c.found_arms-arms.ensures c.found_if_any-or_else.ensures)))

pub walk::presentnnv_of-returns-in-empty : goal.walk::presentnnv_of-returns-in-empty
walk::presentnnv_of-returns-in-empty t c =
    also_gives c.other_presence.result _ _ (none_found c.args.scope.now c.args.at c.args.es.now c.in-empty.len_below) c.other_presence.ensures

pub walk::presentnnv_of-returns-in_err-presence_asked-in-len1-up : goal.walk::presentnnv_of-returns-in_err-presence_asked-in-len1-up
walk::presentnnv_of-returns-in_err-presence_asked-in-len1-up t c =
    let p = err_from_is_err_and c.from_residual-in_err-presence_asked-in-len1-up.result c.from_residual-in_err-presence_asked-in-len1-up.ensures.1 in
    rw (p.1, p.2)
    (asked_exit c.args.scope.now c.args.at c.inner.result c.args.es.now c.in_ok-found-in-len1-up.found c.as_slice.result.now
    c.in_err-presence_asked-in-len1-up.field-0.0 c.inner.ensures c.in_ok-found-in-len1-up.ensures c.as_slice.ensures c.in_err-presence_asked-in-len1-up.ensures)
