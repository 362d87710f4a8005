use Rattle.mq_bind_expr.proofs.DimensionLemmas.{case_names}
use Rattle.mq_bind_expr.proofs.dimensions.+dimension_names.Goals as goal

pub names_dimension-returns-in-Case : goal.names_dimension-returns-in-Case
names_dimension-returns-in-Case t c =
    case_names c.args.e.now _ _ c.as_slice-in-Case.result.now _ c.names_if_any.result c.any_in_arms.result c.names_if_any-in-Case.result c.one_of.result
    c.in-Case.is c.as_slice-in-Case.ensures c.names_if_any.ensures c.any_in_arms.ensures c.names_if_any-in-Case.ensures c.one_of.ensures
