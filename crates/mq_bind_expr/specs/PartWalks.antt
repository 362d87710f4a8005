-- What a cell, PRESENTNNV and what stands in a place are bound to, from what their parts are.
use Rattle.std.specs.Prelude.{ℕ, List, None, Result, Ok}
use Rattle.mq_values.specs.declared.faults.Refused.{Refused}
use Rattle.mq_ast.specs.declared.expressions.E.{E}
use Rattle.mq_ast.specs.declared.expressions.Path.{Path}
use Rattle.mq_ast.specs.declared.expressions.Place.{Place}
use Rattle.mq_ir.specs.declared.expression.Test.TheVariants as test
use Rattle.mq_ir.specs.Results.{◌>>=◌}
use Rattle.mq_bind_scopes.specs.declared.scopes.Owner.{Owner}
use Rattle.mq_bind_scopes.specs.declared.scopes.Placed.{Placed}
use Rattle.mq_bind_scopes.specs.declared.scopes.Position.{Position}
use Rattle.mq_bind_scopes.specs.declared.scopes.Scope.{Scope}
use Rattle.mq_bind_scopes.specs.declared.scopes.Found.{Found}
use Rattle.mq_bind_scopes.specs.Misuses.{any_inside_place}
use Rattle.mq_bind_expr.specs.CellNodes.{cell_node, unless_rule_form}
use Rattle.mq_bind_expr.specs.ExpressionParts.{all_found, index_found}
use Rattle.mq_bind_expr.specs.ExpressionWalk.{bound}
use Rattle.mq_bind_expr.specs.Forms.{is_condition}
use Rattle.mq_bind_expr.specs.NameNodes.{Walked, a_condition}
use Rattle.mq_bind_expr.specs.PlaceTests.{place_of, placed}
use Rattle.mq_bind_scopes.specs.Positions.{bracketed, inner, owner_of, place_kind}
use Rattle.mq_bind_expr.specs.RuleNodes.{presentnnv_node}
use Rattle.mq_bind_expr.specs.Steps.{each_from}

abbrev pub cell_found : Scope → Position → Path → List Place → Walked
cell_found scope at path ps =
    each_from (index_found scope at (owner_of scope path)) 0 ps >>= cell_node scope at path (owner_of scope path)

-- IS ANY, from what stands before it
abbrev pub any_found : Position → Found → Walked
any_found at f = unless_rule_form (any_inside_place at) (Ok (a_condition f.e))

abbrev pub presentnnv_found : Scope → Position → List E → Walked
presentnnv_found scope at es = all_found scope (inner at) es >>= presentnnv_node at

-- a place of which nothing is asked but what stands in it
abbrev pub placed_at : Found → Result Placed Refused
placed_at f = Ok (placed (test.At f.e) None)

-- a place outside rules, and one of a rule
abbrev pub placed_elsewhere : Scope → Position → E → Result Placed Refused
placed_elsewhere scope at e = bound scope e (inner at) >>= placed_at

abbrev pub placed_in_rule : Scope → Position → Owner → ℕ → E → Result Placed Refused
placed_in_rule scope at owner n e = bound scope e (bracketed at owner n (is_condition e)) >>= place_of (place_kind scope owner n) e
