use Rattle.std.proofs.Common.{◌≡◌, drop}
use Rattle.std.specs.List.{list_any}
use Rattle.mq_bind_expr.specs.DimensionRolls.{case_arm_names, prod_term_names, sum_term_names}
use Rattle.mq_bind_expr.specs.Dimensions.{names_dimension}
use Rattle.mq_bind_expr.proofs.dimensions.+dimension_names.Given as goal

abbrev pub invariant-any_names-es : goal.invariant-any_names-es
invariant-any_names-es l = list_any names_dimension (drop l.e-index l.es) ≡ list_any names_dimension l.es

abbrev pub invariant-any_in_sum-terms : goal.invariant-any_in_sum-terms
invariant-any_in_sum-terms l = list_any sum_term_names (drop l.term-index l.terms) ≡ list_any sum_term_names l.terms

abbrev pub invariant-any_in_product-terms : goal.invariant-any_in_product-terms
invariant-any_in_product-terms l = list_any prod_term_names (drop l.term-index l.terms) ≡ list_any prod_term_names l.terms

abbrev pub invariant-any_in_arms-arms : goal.invariant-any_in_arms-arms
invariant-any_in_arms-arms l = list_any case_arm_names (drop l.arm-index l.arms) ≡ list_any case_arm_names l.arms
