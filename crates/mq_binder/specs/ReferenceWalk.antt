-- The references of a model: each its name, its query, its dimensions, its measures and its options.
use Rattle.std.specs.Prelude.{ℕ, List, [], ◌∷◌, ◌++◌, Bool, Result, Ok}
use Rattle.std.specs.List.{enumerate_from, list_any, flat_map}
use Rattle.std.specs.Option.{option_map_or}
use Rattle.mq_lexer.specs.Words.{folded}
use Rattle.mq_values.specs.declared.faults.Refused.{Refused}
use Rattle.mq_values.specs.declared.limits.TheConstants.{MAX_DIMENSIONS, MAX_MEASURES, MAX_REFERENCES}
use Rattle.mq_ast.specs.declared.queries.RefTree.{RefTree}
use Rattle.mq_ir.specs.declared.catalog.Catalog.{Catalog}
use Rattle.mq_ir.specs.declared.limit_numbers.TheConstants.{LIMIT_OF_DIMENSIONS, LIMIT_OF_MEASURES, LIMIT_OF_REFERENCES}
use Rattle.mq_ir.specs.Results.{◌>>=◌}
use Rattle.mq_ir.specs.Tables.{is_name}
use Rattle.mq_binder.specs.declared.found.ListItem.{ListItem}
use Rattle.mq_binder.specs.declared.found.PlainFound.{PlainFound}
use Rattle.mq_binder.specs.declared.found.ReferenceFound.{ReferenceFound}
use Rattle.mq_bind_scopes.specs.declared.scopes.Part.TheVariants as part
use Rattle.mq_bind_scopes.specs.declared.scopes.Printed.{Printed}
use Rattle.mq_bind_scopes.specs.declared.scopes.RowColumn.{RowColumn}
use Rattle.mq_bind_scopes.specs.declared.scopes.Scope.{Scope}
use Rattle.mq_binder.specs.FromWalk.{row_scope}
use Rattle.mq_bind_scopes.specs.Options.{ignores_nav, options_checked}
use Rattle.mq_binder.specs.ListWalk.{items_listed, limited, list_columns, list_exprs, list_kinds, list_names}
use Rattle.mq_bind_scopes.specs.Names.{Name}
use Rattle.mq_binder.specs.PlainWalk.{plain_bound}
use Rattle.mq_bind_scopes.specs.Positions.{standing}
use Rattle.mq_bind_expr.specs.Steps.{each_behind}
use Rattle.mq_bind_scopes.specs.Refusals.{duplicate_name, refused_where}

-- The lists of a reference name the printed columns of its query, which are the columns of one item without an alias.
abbrev pub printed_column : ℕ → Printed → List RowColumn
printed_column n p = option_map_or (λ name. record { name = name; kind = p.kind; at = record { item = 0; column = n } } ∷ []) p.name []

abbrev pub printed_scope : List Printed → Scope
printed_scope printed = row_scope [] (flat_map (λ (p : ℕ × Printed). printed_column p.0 p.1) (enumerate_from 0 printed))

abbrev pub reference_of : Bool → RefTree → PlainFound → List ListItem → List ListItem → ReferenceFound
reference_of around r source dims measures = record {
  part = record {
    source = source.part;
    dims = list_exprs dims;
    measures = list_exprs measures;
    kinds = list_kinds dims ++ list_kinds measures;
    ignore_nav = ignores_nav r.opts around;
  };
  names = record { name = folded r.name; dims = list_columns dims; measures = list_columns measures };
}

abbrev pub dims_listed : RefTree → Scope → Result (List ListItem) Refused
dims_listed r scope = items_listed scope (standing part.Row) [] r.dims >>= limited MAX_DIMENSIONS LIMIT_OF_DIMENSIONS

-- the measures have other names than the dimensions
abbrev pub measures_listed : RefTree → List ListItem → Scope → Result (List ListItem) Refused
measures_listed r dims scope =
    items_listed scope (standing part.Row) (list_names dims) r.measures >>= limited MAX_MEASURES LIMIT_OF_MEASURES

abbrev pub lists_over : Bool → RefTree → PlainFound → Scope → Result ReferenceFound Refused
lists_over around r source scope =
    dims_listed r scope >>= (λ dims.
    measures_listed r dims scope >>= (λ measures.
    options_checked r.opts (Ok (reference_of around r source dims measures))))

-- a reference behind others of these names; `around` is the NAV option at MODEL
abbrev pub reference_bound : Catalog → Bool → List Name → RefTree → Result ReferenceFound Refused
reference_bound catalog around earlier r =
    refused_where (list_any (is_name (folded r.name)) earlier) (duplicate_name (folded r.name)) (
    plain_bound catalog r.query >>= (λ source. lists_over around r source (printed_scope source.printed)))

abbrev pub reference_name : ReferenceFound → Name
reference_name r = r.names.name

abbrev pub references_bound : Catalog → Bool → List RefTree → Result (List ReferenceFound) Refused
references_bound catalog around rs =
    each_behind (reference_bound catalog around) reference_name [] rs >>= limited MAX_REFERENCES LIMIT_OF_REFERENCES
