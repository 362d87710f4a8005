-- A query without MODEL and without an order, as by itself, in a reference and in a FOR.
use Rattle.std.specs.Prelude.{List, length, map, Bool, true, false, nat_lt, Option, Some, Result, Ok}
use Rattle.std.specs.List.{list_any}
use Rattle.mq_values.specs.declared.faults.Refused.{Refused}
use Rattle.mq_values.specs.declared.limits.TheConstants.{MAX_PRINTED_COLUMNS}
use Rattle.mq_ast.specs.declared.queries.Plain.{Plain}
use Rattle.mq_ast.specs.declared.queries.Sel.{Sel}
use Rattle.mq_ir.specs.declared.catalog.Catalog.{Catalog}
use Rattle.mq_ir.specs.declared.expression.Expr.{Expr}
use Rattle.mq_ir.specs.declared.limit_numbers.TheConstants.{LIMIT_OF_PRINTED_COLUMNS}
use Rattle.mq_ir.specs.declared.query.ColRef.{ColRef}
use Rattle.mq_ir.specs.declared.query.FromPart.{FromPart}
use Rattle.mq_ir.specs.Results.{◌>>=◌, each}
use Rattle.mq_binder.specs.declared.found.Base.{Base}
use Rattle.mq_binder.specs.declared.found.PlainFound.{PlainFound}
use Rattle.mq_bind_scopes.specs.declared.misuse_numbers.TheConstants.{MISUSE_OF_UNGROUPED_COLUMN}
use Rattle.mq_bind_scopes.specs.declared.scopes.Part.TheVariants as part
use Rattle.mq_bind_scopes.specs.declared.scopes.Printed.{Printed}
use Rattle.mq_bind_scopes.specs.declared.scopes.RowColumn.{RowColumn}
use Rattle.mq_bind_scopes.specs.declared.scopes.Scope.{Scope}
use Rattle.mq_bind_expr.specs.ExpressionWalk.{bound_value}
use Rattle.mq_bind_expr.specs.Forms.{has_aggregate, name_of}
use Rattle.mq_binder.specs.FromWalk.{base_of, group_of, grouped_by}
use Rattle.mq_bind_scopes.specs.Misuses.{is_ungrouped}
use Rattle.mq_bind_expr.specs.NameNodes.{column_leaf}
use Rattle.mq_bind_scopes.specs.Positions.{standing}
use Rattle.mq_bind_scopes.specs.Refusals.{limit, misuse, refused_where}

-- an item with the column that it prints
abbrev pub Item : Type 0
Item = Expr × Printed

-- an item of a SELECT list
abbrev pub item_bound : Scope → Sel → Result Item Refused
item_bound scope sel = bound_value scope (standing part.Item) sel.e >>= (λ f. Ok (f.e, record { name = name_of sel; kind = f.kind }))

-- `*` stands for all columns of the FROM items, in order
abbrev pub star_item : RowColumn → Item
star_item c = (column_leaf c.at.item c.at.column, record { name = Some c.name; kind = c.kind })

abbrev pub star_bound : Scope → Result (List Item) Refused
star_bound scope =
    refused_where (list_any (λ (c : RowColumn). is_ungrouped scope (standing part.Item) c.at) scope.columns) (misuse MISUSE_OF_UNGROUPED_COLUMN)
    (Ok (map star_item scope.columns))

abbrev pub select_list : Bool → List Sel → Scope → Result (List Item) Refused
select_list true sels scope = star_bound scope
select_list false sels scope = each (item_bound scope) sels

abbrev pub few_printed : {A : Type 0} → List A → Result (List A) Refused
few_printed items = refused_where (nat_lt MAX_PRINTED_COLUMNS (length items)) (limit LIMIT_OF_PRINTED_COLUMNS) (Ok items)

-- whether some item of a list has an aggregate
abbrev pub any_aggregate : List Sel → Bool
any_aggregate = list_any (λ (s : Sel). has_aggregate s.e)

abbrev pub plain_of : FromPart → Option (List ColRef) → List Item → PlainFound
plain_of from group items = record {
  part = record { from = from; items = record { group = group; items = map (λ (i : Item). i.0) items } };
  printed = map (λ (i : Item). i.1) items;
}

-- the items of a query over its scope, which is grouped where the query is, and then with its rows
abbrev pub items_over : Plain → Scope → Result (List Item) Refused
items_over p scope = select_list p.star p.sels scope >>= few_printed

abbrev pub plain_rows : Plain → FromPart → Scope → Result PlainFound Refused
plain_rows p from scope = items_over p scope >>= (λ items. Ok (plain_of from scope.group items))

abbrev pub plain_over : Plain → Base → Option (List ColRef) → Result PlainFound Refused
plain_over p base group = plain_rows p base.from (grouped_by group base.scope)

abbrev pub plain_bound : Catalog → Plain → Result PlainFound Refused
plain_bound catalog p = base_of catalog p >>= (λ base. plain_over p base (group_of base.cols (any_aggregate p.sels)))
