-- A query: its rows, its MODEL clause or its items, what it prints, and its order.
use Rattle.std.specs.Prelude.{ℕ, List, length, Bool, true, false, Option, Some, None, Result, Ok, position}
use Rattle.std.specs.List.{range_with_len}
use Rattle.std.specs.Option.{ok_or, option_map_or}
use Rattle.mq_lexer.specs.Words.{folded}
use Rattle.mq_values.specs.declared.faults.Refused.{Refused}
use Rattle.mq_ast.specs.declared.queries.ModelTree.{ModelTree}
use Rattle.mq_ast.specs.declared.queries.OrderKey.{OrderKey}
use Rattle.mq_ast.specs.declared.queries.Query.{Query}
use Rattle.mq_ast.specs.declared.queries.Sel.{Sel}
use Rattle.mq_ir.specs.declared.catalog.Catalog.{Catalog}
use Rattle.mq_ir.specs.declared.expression.Expr.{Expr, out-Expr}
use Rattle.mq_ir.specs.declared.expression.Expr.TheOpen as layer
use Rattle.mq_ir.specs.declared.expression.Leaf.{Leaf, out-Leaf}
use Rattle.mq_ir.specs.declared.query.BoundQuery.{BoundQuery}
use Rattle.mq_ir.specs.declared.query.FromPart.{FromPart}
use Rattle.mq_ir.specs.declared.query.ModelPart.{ModelPart}
use Rattle.mq_ir.specs.Results.{◌>>=◌, each}
use Rattle.mq_ir.specs.Tables.{is_name}
use Rattle.mq_binder.specs.declared.found.ModelFound.{ModelFound}
use Rattle.mq_binder.specs.declared.found.PlainFound.{PlainFound}
use Rattle.mq_bind_scopes.specs.declared.misuse_numbers.TheConstants.{MISUSE_OF_SHOWN_ITEM}
use Rattle.mq_bind_scopes.specs.declared.scopes.Named.{Named}
use Rattle.mq_bind_scopes.specs.declared.scopes.Part.TheVariants as part
use Rattle.mq_bind_scopes.specs.declared.scopes.Printed.{Printed}
use Rattle.mq_bind_scopes.specs.declared.scopes.Scope.{Scope}
use Rattle.mq_bind_expr.specs.ExpressionWalk.{bound_value}
use Rattle.mq_binder.specs.FromWalk.{base_of, grouped_by, no_model}
use Rattle.mq_binder.specs.ModelWalk.{model_group, model_over}
use Rattle.mq_bind_scopes.specs.Names.{Name, called}
use Rattle.mq_binder.specs.PlainWalk.{few_printed, plain_bound}
use Rattle.mq_bind_scopes.specs.Positions.{standing}
use Rattle.mq_bind_scopes.specs.Refusals.{misuse, unknown_name}

-- ORDER BY without MODEL names the leftmost printed column of a name
abbrev pub prints : Name → Printed → Bool
prints name p = option_map_or (is_name name) p.name false

abbrev pub printed_key : List Printed → OrderKey → Result (ℕ × Bool) Refused
printed_key printed key =
    ok_or (position (prints (folded key.name)) printed) (unknown_name (folded key.name)) >>= (λ n. Ok (n, key.desc))

abbrev pub plain_query : Query → PlainFound → Result BoundQuery Refused
plain_query q found =
    each (printed_key found.printed) q.order >>= (λ order.
    Ok (record {
      from = found.part.from;
      items = found.part.items;
      model = None;
      print = range_with_len 0 (length found.printed);
      order = order;
    }))

-- with MODEL it names a model column
abbrev pub model_key : List Named → OrderKey → Result (ℕ × Bool) Refused
model_key columns key = called (folded key.name) columns >>= (λ c. Ok (c.0, key.desc))

-- An item of the SELECT list of a query with MODEL is a plain model column, which is bound as the column of its number.
abbrev pub leaf_number : Leaf → Option ℕ
leaf_number l = elim (out-Leaf l) [ layer.Column item column ↦ Some column | _ ↦ None ]

abbrev pub column_number : Expr → Option ℕ
column_number e = elim (out-Expr e) [ layer.Leaf l ↦ leaf_number l | _ ↦ None ]

abbrev pub shown_item : Scope → Sel → Result ℕ Refused
shown_item scope sel = bound_value scope (standing part.Shown) sel.e >>= (λ f. ok_or (column_number f.e) (misuse MISUSE_OF_SHOWN_ITEM))

abbrev pub shown_list : Bool → List Sel → Scope → Result (List ℕ) Refused
shown_list true sels scope = Ok (range_with_len 0 (length scope.shown))
shown_list false sels scope = each (shown_item scope) sels

abbrev pub few_shown : Query → Scope → Result (List ℕ) Refused
few_shown q scope = shown_list q.plain.star q.plain.sels scope >>= few_printed

-- what names mean in that list: model columns, and behind an alias the columns of the FROM items
abbrev pub shown_scope : Scope → ModelFound → Scope
shown_scope scope found =
    record { aliases = scope.aliases; columns = scope.columns; group = found.group; shown = found.columns; model = no_model }

-- a query with MODEL: its rows, the items of its model and the model, with what it prints and its order
abbrev pub model_printed : Query → FromPart → List Expr → Option ModelPart → Scope → Result BoundQuery Refused
model_printed q from items model scope =
    few_shown q scope >>= (λ print.
    each (model_key scope.shown) q.order >>= (λ order.
    Ok (record { from = from; items = record { group = scope.group; items = items }; model = model; print = print; order = order })))

abbrev pub model_query : Query → FromPart → Scope → ModelFound → Result BoundQuery Refused
model_query q from scope found = model_printed q from found.items (Some found.part) (shown_scope scope found)

-- the same over rows of this scope, grouped already
abbrev pub model_rows : Catalog → Query → ModelTree → FromPart → Scope → Result BoundQuery Refused
model_rows catalog q m from scope = model_over catalog scope m >>= model_query q from scope

abbrev pub query_with : Catalog → Query → Option ModelTree → Result BoundQuery Refused
query_with catalog q None = plain_bound catalog q.plain >>= plain_query q
query_with catalog q (Some m) =
    base_of catalog q.plain >>= (λ base. model_rows catalog q m base.from (grouped_by (model_group m base) base.scope))

abbrev pub query_bound : Catalog → Query → Result BoundQuery Refused
query_bound catalog q = query_with catalog q q.model
