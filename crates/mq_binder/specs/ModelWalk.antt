-- A MODEL clause: its options and references, its lists with their limits, the main options, the rules and UNTIL.
use Rattle.std.specs.Prelude.{ℕ, List, [], ◌++◌, length, map, Bool, false, ◌||◌, Option, None, is_some, Result, Ok, unwrap_or}
use Rattle.std.specs.Option.{option_map}
use Rattle.mq_values.specs.declared.faults.Refused.{Refused}
use Rattle.mq_values.specs.declared.limits.TheConstants.{MAX_DIMENSIONS, MAX_MEASURES, MAX_PARTITION_COLUMNS}
use Rattle.mq_values.specs.declared.operators.Mode.TheVariants as mode
use Rattle.mq_ast.specs.declared.queries.ModelTree.{ModelTree}
use Rattle.mq_ast.specs.declared.queries.Sel.{Sel}
use Rattle.mq_ir.specs.declared.catalog.Catalog.{Catalog}
use Rattle.mq_ir.specs.declared.expression.Expr.{Expr}
use Rattle.mq_ir.specs.declared.limit_numbers.TheConstants.{LIMIT_OF_DIMENSIONS, LIMIT_OF_MEASURES, LIMIT_OF_PARTITION_COLUMNS}
use Rattle.mq_ir.specs.declared.query.ColRef.{ColRef}
use Rattle.mq_ir.specs.declared.query.Iterate.{Iterate}
use Rattle.mq_ir.specs.declared.query.ModelPart.{ModelPart}
use Rattle.mq_ir.specs.Results.{◌>>=◌}
use Rattle.mq_binder.specs.declared.found.Base.{Base}
use Rattle.mq_binder.specs.declared.found.ListItem.{ListItem}
use Rattle.mq_binder.specs.declared.found.Lists.{Lists}
use Rattle.mq_binder.specs.declared.found.ModelFound.{ModelFound}
use Rattle.mq_binder.specs.declared.found.ReferenceFound.{ReferenceFound}
use Rattle.mq_ir.specs.declared.query.PlainPart.{PlainPart}
use Rattle.mq_ir.specs.declared.query.Rule.{Rule}
use Rattle.mq_bind_scopes.specs.declared.scopes.Part.TheVariants as part
use Rattle.mq_bind_scopes.specs.declared.scopes.Scope.{Scope}
use Rattle.mq_bind_expr.specs.ExpressionWalk.{bound_filter}
use Rattle.mq_binder.specs.FromWalk.{group_of, grouped_by}
use Rattle.mq_bind_scopes.specs.Options.{ignores_nav, options_checked}
use Rattle.mq_binder.specs.ListWalk.{items_listed, limited, list_columns, list_exprs, list_kinds, list_names}
use Rattle.mq_bind_scopes.specs.Names.{Name}
use Rattle.mq_binder.specs.PlainWalk.{any_aggregate}
use Rattle.mq_bind_scopes.specs.Positions.{standing}
use Rattle.mq_binder.specs.ReferenceWalk.{references_bound}
use Rattle.mq_bind_scopes.specs.Heads.{head_bound}
use Rattle.mq_binder.specs.RuleWalk.{rules_bound}

-- a list of the model with the limit of its length, behind columns of these names
abbrev pub items_limited : Scope → ℕ → ℕ → List Name → List Sel → Result (List ListItem) Refused
items_limited scope most number taken sels = items_listed scope (standing part.Item) taken sels >>= limited most number

-- the three lists
abbrev pub lists_bound : Scope → ModelTree → Result Lists Refused
lists_bound scope m =
    items_limited scope MAX_PARTITION_COLUMNS LIMIT_OF_PARTITION_COLUMNS [] m.parts >>= (λ parts.
    items_limited scope MAX_DIMENSIONS LIMIT_OF_DIMENSIONS (list_names parts) m.dims >>= (λ dims.
    items_limited scope MAX_MEASURES LIMIT_OF_MEASURES (list_names parts ++ list_names dims) m.measures >>= (λ measures.
    Ok (record { parts = parts; dims = dims; measures = measures }))))

abbrev pub all_items : Lists → List ListItem
all_items lists = lists.parts ++ lists.dims ++ lists.measures

-- what rules and UNTIL may name
abbrev pub rule_scope : List ReferenceFound → Lists → Bool → Scope
rule_scope refs lists iterates = record {
  aliases = [];
  columns = [];
  group = None;
  shown = [];
  model = record {
    dims = list_columns lists.dims;
    measures = list_columns lists.measures;
    refs = map (λ (r : ReferenceFound). r.names) refs;
    iterates = iterates;
  };
}

abbrev pub model_part : ModelTree → List ReferenceFound → Lists → Option Iterate → List Rule × List PlainPart → ModelPart
model_part m refs lists iterate found = record {
  parts = length lists.parts;
  part_kinds = list_kinds lists.parts;
  dims = list_kinds lists.dims;
  measures = list_kinds lists.measures;
  names = list_names lists.measures;
  ignore_nav = ignores_nav m.main_opts (ignores_nav m.opts false);
  updated_only = m.updated_only;
  auto = m.auto;
  iterate = iterate;
  rules = found.0;
  refs = map (λ (r : ReferenceFound). r.part) refs;
  lists = found.1;
}

-- UNTIL stands behind ITERATE
abbrev pub iterate_of : Option ℕ → Option Expr → Option Iterate
iterate_of turns until = option_map (λ n. record { turns = n; until = until }) turns

abbrev pub rules_over : Catalog → ModelTree → List ReferenceFound → Lists → Option ℕ → Scope → Result ModelPart Refused
rules_over catalog m refs lists turns scope =
    rules_bound catalog scope (unwrap_or m.mode mode.Upsert) m.auto m.rules >>= (λ found.
    bound_filter scope (standing part.Until) m.until >>= (λ until. Ok (model_part m refs lists (iterate_of turns until) found)))

abbrev pub lists_and_rules : Catalog → Option (List ColRef) → Scope → ModelTree → List ReferenceFound → Result ModelFound Refused
lists_and_rules catalog group scope m refs =
    lists_bound scope m >>= (λ lists.
    head_bound m >>= (λ turns.
    rules_over catalog m refs lists turns (rule_scope refs lists (is_some turns)) >>= (λ part.
    Ok (record { part = part; items = list_exprs (all_items lists); columns = list_columns (all_items lists); group = group }))))

-- the columns of GROUP BY, where the items of the model have an aggregate or GROUP BY stands there
abbrev pub model_group : ModelTree → Base → Option (List ColRef)
model_group m base = group_of base.cols (any_aggregate m.parts || any_aggregate m.dims || any_aggregate m.measures)

-- a model over rows of this scope, grouped already
abbrev pub model_over : Catalog → Scope → ModelTree → Result ModelFound Refused
model_over catalog scope m =
    options_checked m.opts (
    references_bound catalog (ignores_nav m.opts false) m.refs >>= (λ refs. lists_and_rules catalog scope.group scope m refs))

abbrev pub model_bound : Catalog → Base → ModelTree → Result ModelFound Refused
model_bound catalog base m = model_over catalog (grouped_by (model_group m base) base.scope) m
