-- The FORs of a left side: what they go through, and whether it goes with the dimensions that they stand for.
use Rattle.std.specs.Prelude.{ℕ, List, [], ◌∷◌, ◌++◌, length, map, zip, Bool, false, not, ◌&&◌, ◌==◌, Option, Result, Ok}
use Rattle.std.specs.List.{list_all, list_any}
use Rattle.std.specs.Option.{option_map_or}
use Rattle.mq_lexer.specs.Words.{folded}
use Rattle.mq_values.specs.declared.faults.Refused.{Refused}
use Rattle.mq_ast.specs.declared.expressions.E.{E}
use Rattle.mq_ast.specs.declared.queries.ForList.{ForList}
use Rattle.mq_ast.specs.declared.queries.ForList.TheVariants as for_list
use Rattle.mq_ir.specs.declared.catalog.Catalog.{Catalog}
use Rattle.mq_ir.specs.declared.query.LeftItem.{LeftItem}
use Rattle.mq_ir.specs.declared.query.LeftItem.TheVariants as item
use Rattle.mq_ir.specs.declared.query.ListSource.TheVariants as source
use Rattle.mq_ir.specs.declared.query.PlainPart.{PlainPart}
use Rattle.mq_ir.specs.Results.{◌>>=◌, each}
use Rattle.mq_ir.specs.Tables.{is_name}
use Rattle.mq_binder.specs.declared.found.ListFound.{ListFound}
use Rattle.mq_binder.specs.declared.found.PlainFound.{PlainFound}
use Rattle.mq_bind_scopes.specs.declared.kinds.ExprKind.{ExprKind}
use Rattle.mq_bind_scopes.specs.declared.misuse_numbers.TheConstants.{MISUSE_OF_FOR}
use Rattle.mq_bind_scopes.specs.declared.scopes.Found.{Found}
use Rattle.mq_bind_scopes.specs.declared.scopes.Named.{Named}
use Rattle.mq_bind_scopes.specs.declared.scopes.Owner.TheVariants as owner
use Rattle.mq_bind_scopes.specs.declared.scopes.Part.TheVariants as part
use Rattle.mq_bind_scopes.specs.declared.scopes.Printed.{Printed}
use Rattle.mq_bind_scopes.specs.declared.scopes.Scope.{Scope}
use Rattle.mq_bind_expr.specs.ExpressionWalk.{bound}
use Rattle.mq_bind_scopes.specs.ForSteps.{steps_fit}
use Rattle.mq_bind_scopes.specs.Kinds.{is_condition_kind}
use Rattle.mq_bind_scopes.specs.Names.{Name}
use Rattle.mq_bind_expr.specs.OperatorNodes.{exprs_of, kinds_of}
use Rattle.mq_bind_expr.specs.PlaceTests.{fits_dimension}
use Rattle.mq_binder.specs.PlainWalk.{plain_bound}
use Rattle.mq_bind_scopes.specs.Positions.{dimension_at, place_kind, standing}
use Rattle.mq_bind_scopes.specs.Refusals.{kind_mismatch, misuse, refused_where}

-- What a FOR goes through. Its subquery is a query of its own, and is put behind the subqueries of the FORs before it.
abbrev pub value_row : Scope → List E → Result (List Found) Refused
value_row scope = each (λ (e : E). bound scope e (standing part.Left))

abbrev pub values_found : List PlainPart → List (List Found) → ListFound
values_found lists rows = record { source = source.Values (map exprs_of rows); kinds = map kinds_of rows; lists = lists }

abbrev pub rows_found : List PlainPart → PlainFound → ListFound
rows_found lists p = record {
  source = source.Rows (length lists);
  kinds = map (λ (c : Printed). c.kind) p.printed ∷ [];
  lists = lists ++ p.part ∷ [];
}

abbrev pub list_bound : Catalog → Scope → List PlainPart → ForList → Result ListFound Refused
list_bound catalog scope lists (for_list.Values rows) = each (value_row scope) rows >>= (λ found. Ok (values_found lists found))
list_bound catalog scope lists (for_list.Rows p) = plain_bound catalog p >>= (λ found. Ok (rows_found lists found))

-- values against the dimensions that they are for, as far as they pair
abbrev pub pairs_fit : List (Option ExprKind) → List ExprKind → Bool
pairs_fit dims kinds = list_all (λ (p : Option ExprKind × ExprKind). fits_dimension p.0 p.1) (zip dims kinds)

-- a row of values: none is a condition, whether or not there is a dimension that it is for
abbrev pub row_fits : List (Option ExprKind) → List ExprKind → Bool
row_fits dims kinds = not (list_any is_condition_kind kinds) && pairs_fit dims kinds

abbrev pub has_width : ℕ → List ExprKind → Bool
has_width n kinds = length kinds == n

-- A FOR: the kinds of its values, then whether it names what it stands for, and the width of its values.
abbrev pub for_checked : List (Option ExprKind) → Bool → ListFound → Result ListFound Refused
for_checked dims is_named found =
    refused_where (not (list_all (row_fits dims) found.kinds)) kind_mismatch (
    refused_where (not (is_named && list_all (has_width (length dims)) found.kinds)) (misuse MISUSE_OF_FOR) (Ok found))

-- a place of one FOR names the dimension of its place
abbrev pub names_place : Scope → ℕ → Name → Bool
names_place scope n name = option_map_or (λ (d : Named). is_name (folded name) d.name) (dimension_at scope owner.Main n) false

abbrev pub steps_checked : Scope → ℕ → Name → Bool → Found → Found → Found → Result LeftItem Refused
steps_checked scope n dim down start stop step =
    refused_where (not (steps_fit (place_kind scope owner.Main n) start.kind stop.kind step.kind)) kind_mismatch (
    refused_where (not (names_place scope n dim)) (misuse MISUSE_OF_FOR) (
    Ok (item.Steps start.e stop.e step.e down)))
