-- What is bound under a catalog: its names are there or not there, its numbers are below the counts of what they
-- number, its lists have their widths, and no limit is passed.
use Rattle.std.specs.Prelude.{ℕ, ◌+◌, List, [], ◌∷◌, ◌++◌, length, map, take, drop, Bool, true, ◌&&◌, ◌==◌, nat_lt, nat_le, Option, slice_index_or}
use Rattle.std.specs.List.{enumerate_from, filter, list_all, range_with_len}
use Rattle.std.specs.Option.{option_map_or}
use Rattle.mq_ir.specs.declared.expression.Expr.{Expr}
use Rattle.mq_ir.specs.declared.query.BoundQuery.{BoundQuery}
use Rattle.mq_ir.specs.declared.query.ColRef.{ColRef}
use Rattle.mq_ir.specs.declared.query.FromPart.{FromPart}
use Rattle.mq_ir.specs.declared.query.ItemPart.{ItemPart}
use Rattle.mq_ir.specs.declared.query.Iterate.{Iterate}
use Rattle.mq_ir.specs.declared.query.Left.{Left}
use Rattle.mq_ir.specs.declared.query.Left.TheVariants.{Places, Tuples}
use Rattle.mq_ir.specs.declared.query.LeftItem.{LeftItem}
use Rattle.mq_ir.specs.declared.query.LeftItem.TheVariants.{At, Sym, List as Listed, Steps}
use Rattle.mq_ir.specs.declared.query.ListSource.{ListSource}
use Rattle.mq_ir.specs.declared.query.ListSource.TheVariants.{Values, Rows}
use Rattle.mq_ir.specs.declared.query.ModelPart.{ModelPart}
use Rattle.mq_ir.specs.declared.query.PlainPart.{PlainPart}
use Rattle.mq_ir.specs.declared.query.RefPart.{RefPart}
use Rattle.mq_ir.specs.declared.query.Rule.{Rule}
use Rattle.mq_ir.specs.declared.catalog.Catalog.{Catalog}
use Rattle.mq_ir.specs.Names.{is_table, width_of}
use Rattle.mq_ir.specs.FitsExpression.{Scope, expression_fits, kind_fits, test_fits}
use Rattle.mq_values.specs.declared.limits.TheConstants.{MAX_DIMENSIONS, MAX_FROM_ITEMS, MAX_MEASURES, MAX_PARTITION_COLUMNS, MAX_PRINTED_COLUMNS, MAX_REFERENCES, MAX_RULES, MAX_TURNS}

-- an expression over rows: it may name these columns
abbrev pub row_scope : List ℕ → Scope
row_scope columns = record { columns = columns; dims = 0; measures = 0; refs = [] }

abbrev pub fits_if_there : Scope → Option Expr → Bool
fits_if_there scope e = option_map_or (expression_fits scope) e true

-- each ON condition sees the FROM items up to its own
abbrev pub ons_fit : List ℕ → List (Option Expr) → Bool
ons_fit columns ons = list_all (λ (n, on). fits_if_there (row_scope (take (n + 1) columns)) on) (enumerate_from 0 ons)

abbrev pub from_fits : Catalog → FromPart → Bool
from_fits catalog from =
    let columns = map (width_of catalog) from.tables in
    list_all (is_table catalog) from.tables && nat_le (length from.tables) MAX_FROM_ITEMS && (length from.ons == length from.tables)
    && ons_fit columns from.ons && fits_if_there (row_scope columns) from.filter

abbrev pub group_fits : List ℕ → List ColRef → Bool
group_fits columns = list_all (λ c. nat_lt c.column (slice_index_or columns c.item 0))

abbrev pub items_fit : Catalog → FromPart → ItemPart → Bool
items_fit catalog from items =
    let columns = map (width_of catalog) from.tables in
    option_map_or (group_fits columns) items.group true && list_all (expression_fits (row_scope columns)) items.items

abbrev pub plain_fits : Catalog → PlainPart → Bool
plain_fits catalog p =
    from_fits catalog p.from && items_fit catalog p.from p.items && nat_le (length p.items.items) MAX_PRINTED_COLUMNS

abbrev pub reference_fits : Catalog → RefPart → Bool
reference_fits catalog r =
    let scope = row_scope (length r.source.items.items ∷ []) in
    plain_fits catalog r.source
    && list_all (expression_fits scope) (r.dims ++ r.measures)
    && nat_le (length r.dims) MAX_DIMENSIONS && nat_le (length r.measures) MAX_MEASURES
    && (length r.kinds == length r.dims + length r.measures) && list_all kind_fits r.kinds

-- what rules and UNTIL may name
abbrev pub model_scope : ModelPart → Scope
model_scope part =
    record {
      columns = [];
      dims = length part.dims;
      measures = length part.measures;
      refs = map (λ r. (length r.dims, length r.measures)) part.refs;
    }

-- the values of a FOR list, each of this width
abbrev pub source_fits : ModelPart → ℕ → ListSource → Bool
source_fits part width (Values rows) = list_all (λ row. (length row == width) && list_all (expression_fits (model_scope part)) row) rows
source_fits part width (Rows n) = list_all (λ p. length p.items.items == width) (take 1 (drop n part.lists)) && nat_lt n (length part.lists)

abbrev pub item_fits : ModelPart → LeftItem → Bool
item_fits part (At e) = expression_fits (model_scope part) e
item_fits part (Sym test) = test_fits (model_scope part) test
item_fits part (Listed source) = source_fits part 1 source
item_fits part (Steps start stop step down) = list_all (expression_fits (model_scope part)) (start ∷ stop ∷ step ∷ [])

-- each number from 0 on below n stands once among these
abbrev pub numbers_each_once : ℕ → List ℕ → Bool
numbers_each_once n numbers = (length numbers == n) && list_all (λ k. length (filter (λ j. j == k) numbers) == 1) (range_with_len 0 n)

abbrev pub left_fits : ModelPart → Left → Bool
left_fits part (Places items) = (length items == length part.dims) && list_all (item_fits part) items
left_fits part (Tuples dims source) = numbers_each_once (length part.dims) dims && source_fits part (length part.dims) source

abbrev pub rule_fits : ModelPart → Rule → Bool
rule_fits part rule =
    nat_lt rule.measure (length part.measures) && left_fits part rule.left
    && list_all (λ key. nat_lt key.0 (length part.dims)) rule.order && expression_fits (model_scope part) rule.right

abbrev pub turns_fit : ModelPart → Iterate → Bool
turns_fit part iterate = nat_lt 0 iterate.turns && nat_le iterate.turns MAX_TURNS && fits_if_there (model_scope part) iterate.until

abbrev pub iterate_fits : ModelPart → Bool
iterate_fits part = option_map_or (turns_fit part) part.iterate true

abbrev pub model_fits : Catalog → ModelPart → Bool
model_fits catalog part =
    nat_le part.parts MAX_PARTITION_COLUMNS && nat_le (length part.dims) MAX_DIMENSIONS && nat_le (length part.measures) MAX_MEASURES
    && (length part.part_kinds == part.parts) && (length part.names == length part.measures)
    && list_all kind_fits (part.part_kinds ++ part.dims ++ part.measures) && nat_le (length part.rules) MAX_RULES && nat_le (length part.refs) MAX_REFERENCES
    && list_all (reference_fits catalog) part.refs && list_all (plain_fits catalog) part.lists
    && list_all (rule_fits part) part.rules && iterate_fits part

-- how many columns ORDER BY and the SELECT list may number
abbrev pub column_count : BoundQuery → ℕ
column_count q = option_map_or (λ part. part.parts + length part.dims + length part.measures) q.model (length q.items.items)

abbrev pub query_fits : Catalog → BoundQuery → Bool
query_fits catalog q =
    from_fits catalog q.from && items_fit catalog q.from q.items && option_map_or (model_fits catalog) q.model true
    && (length q.items.items == column_count q) && nat_le (length q.print) MAX_PRINTED_COLUMNS
    && list_all (λ n. nat_lt n (column_count q)) q.print && list_all (λ key. nat_lt key.0 (column_count q)) q.order
