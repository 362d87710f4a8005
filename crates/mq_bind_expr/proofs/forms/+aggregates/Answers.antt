use Rattle.mq_bind_expr.proofs.FormLemmas.{case_has}
use Rattle.mq_bind_expr.proofs.forms.+aggregates.Goals as goal

pub has_aggregate-returns-in-Case : goal.has_aggregate-returns-in-Case
has_aggregate-returns-in-Case t c =
    case_has c.args.e.now _ _ c.as_slice-in-Case.result.now _ c.aggregate_if_any.result c.any_in_arms.result c.aggregate_if_any-in-Case.result c.one_of.result
    c.in-Case.is c.as_slice-in-Case.ensures c.aggregate_if_any.ensures c.any_in_arms.ensures c.aggregate_if_any-in-Case.ensures c.one_of.ensures
