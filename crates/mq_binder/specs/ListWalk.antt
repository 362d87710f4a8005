-- The lists of a model or a reference: partition columns, dimensions and measures.
use Rattle.std.specs.Prelude.{ℕ, List, length, map, nat_lt, Option, Some, None, Result, Ok, Err}
use Rattle.std.specs.List.{list_any}
use Rattle.std.specs.Option.{ok_or}
use Rattle.mq_values.specs.declared.faults.Refused.{Refused}
use Rattle.mq_values.specs.declared.value.Kind.{Kind}
use Rattle.mq_ast.specs.declared.queries.Sel.{Sel}
use Rattle.mq_ir.specs.declared.expression.Expr.{Expr}
use Rattle.mq_ir.specs.Results.{◌>>=◌}
use Rattle.mq_ir.specs.Tables.{is_name}
use Rattle.mq_binder.specs.declared.found.ListItem.{ListItem}
use Rattle.mq_bind_scopes.specs.declared.misuse_numbers.TheConstants.{MISUSE_OF_ITEM_WITHOUT_NAME}
use Rattle.mq_bind_scopes.specs.declared.scopes.Found.{Found}
use Rattle.mq_bind_scopes.specs.declared.scopes.Named.{Named}
use Rattle.mq_bind_scopes.specs.declared.scopes.Position.{Position}
use Rattle.mq_bind_scopes.specs.declared.scopes.Scope.{Scope}
use Rattle.mq_bind_expr.specs.ExpressionWalk.{bound}
use Rattle.mq_bind_expr.specs.Forms.{name_of}
use Rattle.mq_bind_scopes.specs.Kinds.{column_kind}
use Rattle.mq_bind_scopes.specs.Names.{Name}
use Rattle.mq_bind_expr.specs.Steps.{each_behind}
use Rattle.mq_bind_scopes.specs.Refusals.{duplicate_name, kind_mismatch, limit, misuse, refused_where}

-- an item has a kind
abbrev pub item_kind : Found → Result Kind Refused
item_kind f = ok_or (column_kind f.kind) kind_mismatch

-- An item of a list, behind items of these names: its name is new, it has a kind, and it has a name.
abbrev pub item_checked : List Name → Option Name → Found → Result ListItem Refused
item_checked taken None f = item_kind f >>= (λ k. Err (misuse MISUSE_OF_ITEM_WITHOUT_NAME))
item_checked taken (Some name) f =
    refused_where (list_any (is_name name) taken) (duplicate_name name) (
    item_kind f >>= (λ k. Ok (record { e = f.e; column = record { name = name; kind = f.kind }; kind = k })))

abbrev pub list_item : Scope → Position → List Name → Sel → Result ListItem Refused
list_item scope at taken sel = bound scope sel.e at >>= item_checked taken (name_of sel)

abbrev pub listed_name : ListItem → Name
listed_name item = item.column.name

abbrev pub items_listed : Scope → Position → List Name → List Sel → Result (List ListItem) Refused
items_listed scope at = each_behind (list_item scope at) listed_name

-- a list with the limit of its length
abbrev pub limited : {A : Type 0} → ℕ → ℕ → List A → Result (List A) Refused
limited most number items = refused_where (nat_lt most (length items)) (limit number) (Ok items)

-- what a list gives
abbrev pub list_exprs : List ListItem → List Expr
list_exprs = map (λ (i : ListItem). i.e)

abbrev pub list_columns : List ListItem → List Named
list_columns = map (λ (i : ListItem). i.column)

abbrev pub list_kinds : List ListItem → List Kind
list_kinds = map (λ (i : ListItem). i.kind)

abbrev pub list_names : List ListItem → List Name
list_names = map listed_name
