-- What a query answers over tables.
use Rattle.std.specs.Prelude.{ℕ, ◌+◌, List, [], ◌++◌, length, map, Bool, true, false, not, ◌||◌, ◌==◌, nat_lt, if◌then◌else◌, Result, Ok, Err}
use Rattle.std.specs.List.{enumerate_from, filter, find, list_any}
use Rattle.std.specs.Option.{option_map_or}
use Rattle.mq_values.specs.declared.faults.FaultKind.TheVariants as kind
use Rattle.mq_values.specs.declared.faults.QueryFault.{QueryFault}
use Rattle.mq_ir.specs.declared.query.Answer.{Answer}
use Rattle.mq_ir.specs.declared.query.Answer.TheVariants as answer
use Rattle.mq_ir.specs.declared.query.BoundQuery.{BoundQuery}
use Rattle.mq_ir.specs.declared.query.Left.{Left}
use Rattle.mq_ir.specs.declared.query.Left.TheVariants.{Places, Tuples}
use Rattle.mq_ir.specs.declared.query.LeftItem.{LeftItem}
use Rattle.mq_ir.specs.declared.query.LeftItem.TheVariants.{List as Listed}
use Rattle.mq_ir.specs.declared.query.ListSource.{ListSource}
use Rattle.mq_ir.specs.declared.query.ListSource.TheVariants.{Values, Rows}
use Rattle.mq_ir.specs.declared.query.ModelPart.{ModelPart}
use Rattle.mq_ir.specs.declared.query.OutCell.{OutCell}
use Rattle.mq_ir.specs.declared.query.PartInput.{PartInput}
use Rattle.mq_ir.specs.declared.query.PartResult.{PartResult}
use Rattle.mq_ir.specs.declared.query.PartResult.TheVariants as result
use Rattle.mq_ir.specs.declared.query.PlainPart.{PlainPart}
use Rattle.mq_ir.specs.Automatic.{automatic}
use Rattle.mq_ir.specs.Items.{items_over}
use Rattle.mq_ir.specs.References.{reference_over}
use Rattle.mq_ir.specs.Iteration.{sequential}
use Rattle.mq_values.specs.declared.limits.TheConstants.{MAX_CELLS_OF_QUERY}
use Rattle.mq_ir.specs.Partitions.{Tuple, partitions}
pub use Rattle.mq_ir.specs.Placed.{plain_fault}
use Rattle.mq_ir.specs.Placed.{at_partition, placed_fault}
use Rattle.mq_ir.specs.Printing.{printed_rows}
use Rattle.mq_ir.specs.Results.{◌>>=◌, each, each_in_turn, marked}
use Rattle.mq_ir.specs.Tables.{Tables}
use Rattle.mq_ir.specs.Unfolding.{Model}

-- whether a left side takes the values of this FOR subquery
abbrev pub is_source : ℕ → ListSource → Bool
is_source list (Values rows) = false
is_source list (Rows n) = n == list

abbrev pub item_takes : ℕ → LeftItem → Bool
item_takes list (Listed source) = is_source list source
item_takes list _ = false

abbrev pub left_takes : ℕ → Left → Bool
left_takes list (Places items) = list_any (item_takes list) items
left_takes list (Tuples dims source) = is_source list source

-- the number of the rule to which a FOR subquery belongs
abbrev pub rule_of_list : ModelPart → ℕ → ℕ
rule_of_list part list = option_map_or (λ rule. rule.0) (find (λ rule. left_takes list rule.1.left) (enumerate_from 1 part.rules)) 0

-- the rows of a FOR subquery; a fault carries its rule
abbrev pub list_rows : Tables → ModelPart → ℕ × PlainPart → Result (List Tuple) QueryFault
list_rows tables part (n, list) = marked (plain_fault (rule_of_list part n)) (items_over tables list.from list.items)

-- a model with its references, and then its FOR subqueries, as they are over these tables
abbrev pub model_over : Tables → ModelPart → Result Model QueryFault
model_over tables part =
    marked (at_partition []) (each (reference_over tables) part.refs) >>= (λ refs.
    each (list_rows tables part) (enumerate_from 0 part.lists) >>= (λ lists.
    Ok (record { part = part; lists = lists; refs = refs })))

-- the columns of the model at a cell: the partition's, the dimensions, the measures
abbrev pub columns_of : Tuple → OutCell → Tuple
columns_of key cell = key ++ cell.key ++ cell.measures

-- the cells that are returned: all, or those that were a target
abbrev pub returned : ModelPart → List OutCell → List OutCell
returned part = filter (λ cell. not part.updated_only || cell.updated)

abbrev pub result_in : Model → PartInput → PartResult
result_in model p = elim model.part.auto [ true ↦ (automatic model p).1 | false ↦ sequential model p ]

-- how many cells there were so far, and the rows so far
abbrev pub Gathered : Type 0
Gathered = ℕ × List Tuple

-- the cells of a partition are counted, whether they are returned or not
abbrev pub with_cells : Model → Tuple → Gathered → List OutCell → Result Gathered QueryFault
with_cells model key (count, rows) cells =
    if nat_lt MAX_CELLS_OF_QUERY (count + length cells) then Err (at_partition key (placed_fault 0 [] kind.TooManyCells))
    else Ok (count + length cells, rows ++ map (columns_of key) (returned model.part cells))

abbrev pub partition_step : Model → PartInput → Gathered → Result Gathered QueryFault
partition_step model p gathered =
    elim (result_in model p) [ result.Rows cells ↦ with_cells model p.key gathered cells | result.Fault fault ↦ Err fault ]

-- the partitions one after another, ascending
abbrev pub model_rows : Tables → List Tuple → ModelPart → Result (List Tuple) QueryFault
model_rows tables items part =
    model_over tables part >>= (λ model.
    each_in_turn (partition_step model) (partitions part items) (0, []) >>= (λ gathered. Ok gathered.1))

-- the rows of a query before they are ordered, or its first fault
abbrev pub query_rows : Tables → BoundQuery → Result (List Tuple) QueryFault
query_rows tables q =
    marked (plain_fault 0) (items_over tables q.from q.items) >>= (λ items. option_map_or (model_rows tables items) q.model (Ok items))

-- what a query answers
abbrev pub answer_of : Tables → BoundQuery → Answer
answer_of tables q = elim (query_rows tables q) [ Ok rows ↦ answer.Rows (printed_rows q rows) | Err fault ↦ answer.Fault fault ]
