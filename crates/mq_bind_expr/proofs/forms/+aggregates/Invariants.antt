use Rattle.std.proofs.Common.{◌≡◌, drop}
use Rattle.std.specs.List.{list_any}
use Rattle.mq_bind_expr.specs.FormRolls.{case_arm_has, place_has, prod_term_has, sum_term_has}
use Rattle.mq_bind_expr.specs.Forms.{has_aggregate}
use Rattle.mq_bind_expr.proofs.forms.+aggregates.Given as goal

abbrev pub invariant-any_aggregate-es : goal.invariant-any_aggregate-es
invariant-any_aggregate-es l = list_any has_aggregate (drop l.e-index l.es) ≡ list_any has_aggregate l.es

abbrev pub invariant-any_in_sum-terms : goal.invariant-any_in_sum-terms
invariant-any_in_sum-terms l = list_any sum_term_has (drop l.term-index l.terms) ≡ list_any sum_term_has l.terms

abbrev pub invariant-any_in_product-terms : goal.invariant-any_in_product-terms
invariant-any_in_product-terms l = list_any prod_term_has (drop l.term-index l.terms) ≡ list_any prod_term_has l.terms

abbrev pub invariant-any_in_places-places : goal.invariant-any_in_places-places
invariant-any_in_places-places l = list_any place_has (drop l.place-index l.places) ≡ list_any place_has l.places

abbrev pub invariant-any_in_arms-arms : goal.invariant-any_in_arms-arms
invariant-any_in_arms-arms l = list_any case_arm_has (drop l.arm-index l.arms) ≡ list_any case_arm_has l.arms
