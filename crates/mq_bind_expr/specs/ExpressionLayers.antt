-- One layer of the walk over an expression: its operands from left to right, each with its own offences, and then the node.
use Rattle.std.specs.Prelude.{true, false, None, Ok}
use Rattle.mq_ast.specs.declared.expressions.E.TheOpen as layer
use Rattle.mq_ir.specs.declared.expression.Test.TheVariants as test
use Rattle.mq_ir.specs.Results.{◌>>=◌}
use Rattle.mq_bind_scopes.specs.declared.scopes.Scope.{Scope}
use Rattle.mq_bind_expr.specs.CellNodes.{agg_node, cell_node, count_all_node, range_node, unless_rule_form}
use Rattle.mq_bind_expr.specs.RuleNodes.{cv_node, presentnnv_node, presentv_node, present_node, previous_node, turn_node}
use Rattle.mq_bind_expr.specs.Forms.{is_condition}
use Rattle.mq_bind_scopes.specs.Misuses.{any_inside_place, outside_rules}
use Rattle.mq_bind_expr.specs.NameNodes.{a_condition, name_node}
use Rattle.mq_bind_expr.specs.FunctionNodes.{call_node, case_node}
use Rattle.mq_bind_expr.specs.OperatorNodes.{and_node, between_node, cast_node, cmp_node, in_node, lit_node, neg_node, not_node, null_node, or_node, prod_node, sum_node}
use Rattle.mq_bind_expr.specs.PlaceTests.{place_of, placed}
use Rattle.mq_bind_scopes.specs.Positions.{aggregated, bracketed, inner, owner_of, place_kind}
use Rattle.mq_bind_expr.specs.Steps.{each_from}
use Rattle.mq_bind_expr.specs.ExpressionVisits.{Meaning, PlaceMeaning, ArmMeaning, ELayer, PlaceLayer, ArmLayer, ProdLayer, SumLayer, visited, visited_sums, visited_prods, visited_arms, visited_if_any, index_at, test_at}

abbrev pub layer_bound : Scope → ELayer → Meaning
layer_bound scope (layer.Or es) at = visited (inner at) es >>= or_node
layer_bound scope (layer.And es) at = visited (inner at) es >>= and_node
layer_bound scope (layer.Not a) at = a.1 (inner at) >>= not_node
layer_bound scope (layer.Cmp a op b) at = a.1 (inner at) >>= (λ f. b.1 (inner at) >>= cmp_node op f)
layer_bound scope (layer.Between a negated low high) at =
    a.1 (inner at) >>= (λ f. low.1 (inner at) >>= (λ g. high.1 (inner at) >>= between_node negated f g))
layer_bound scope (layer.InList a negated es) at = a.1 (inner at) >>= (λ f. visited (inner at) es >>= in_node negated f)
layer_bound scope (layer.IsNull a negated) at = a.1 (inner at) >>= null_node negated
layer_bound scope (layer.IsPresent a negated) at = a.1 (inner at) >>= present_node at negated
layer_bound scope (layer.IsAny a) at = a.1 (inner at) >>= (λ f. unless_rule_form (any_inside_place at) (Ok (a_condition f.e)))
layer_bound scope (layer.Sum first terms) at = first.1 (inner at) >>= (λ f. visited_sums (inner at) terms >>= sum_node f)
layer_bound scope (layer.Prod first terms) at = first.1 (inner at) >>= (λ f. visited_prods (inner at) terms >>= prod_node f)
layer_bound scope (layer.Neg a) at = a.1 (inner at) >>= neg_node
layer_bound scope (layer.Lit v) at = Ok (lit_node v)
layer_bound scope (layer.Name path) at = name_node scope at path
layer_bound scope (layer.Cell path places) at =
    each_from (index_at scope at (owner_of scope path)) 0 places >>= cell_node scope at path (owner_of scope path)
layer_bound scope (layer.Agg f a) at = a.1 (aggregated at) >>= agg_node at f
layer_bound scope layer.CountAll at = count_all_node at
layer_bound scope (layer.RangeAgg f name places) at = each_from (test_at at) 0 places >>= range_node scope at f name
layer_bound scope (layer.Case of arms or_else) at =
    visited_if_any (inner at) of >>= (λ subject.
    visited_arms (inner at) arms >>= (λ found.
    visited_if_any (inner at) or_else >>= case_node subject found))
layer_bound scope (layer.Cast a k) at = a.1 (inner at) >>= cast_node k
layer_bound scope (layer.Call f es) at = visited (inner at) es >>= call_node f
layer_bound scope (layer.Cv name) at = cv_node scope at name
layer_bound scope layer.Turn at = turn_node scope at
layer_bound scope (layer.Previous a) at = a.1 (inner at) >>= previous_node at
layer_bound scope (layer.PresentV es) at = visited (inner at) es >>= presentv_node at
layer_bound scope (layer.PresentNnv es) at = visited (inner at) es >>= presentnnv_node at

-- A place of a bracket. In a rule it is judged once what stands in it was visited; elsewhere the bracket around it is
-- refused anyway, and nothing else is asked of it.
abbrev pub layer_place : Scope → PlaceLayer → PlaceMeaning
layer_place scope layer.Any at owner n = unless_rule_form (outside_rules at) (Ok (placed test.Any None))
layer_place scope (layer.Expr e) at owner n =
    elim (outside_rules at) [
      | true ↦ e.1 (inner at) >>= (λ f. Ok (placed (test.At f.e) None))
      | false ↦ e.1 (bracketed at owner n (is_condition e.0)) >>= place_of (place_kind scope owner n) e.0
    ]

abbrev pub layer_arm : ArmLayer → ArmMeaning
layer_arm arm at = arm.test.1 at >>= (λ f. arm.value.1 at >>= (λ g. Ok (f, g)))

abbrev pub layer_prod : ProdLayer → Meaning
layer_prod term at = term.e.1 at

abbrev pub layer_sum : SumLayer → Meaning
layer_sum term at = term.e.1 at
