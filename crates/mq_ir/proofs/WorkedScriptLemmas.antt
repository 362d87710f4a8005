-- What the worked query prints, and what the worked insertion comes to.
use Rattle.std.proofs.Common.{◌≡◌, List, [], ◌∷◌, Ok, Err, Result, refl, ap, ◌∙◌}
use Rattle.std.specs.Option.{option_map_or}
use Rattle.mq_values.specs.declared.faults.FaultKind.{FaultKind}
use Rattle.mq_ir.specs.declared.expression.Leaf.TheVariants as leaf
use Rattle.mq_ir.specs.declared.query.Answer.{Answer}
use Rattle.mq_ir.specs.declared.query.Answer.TheVariants as answer
use Rattle.mq_ir.specs.declared.query.BoundQuery.{BoundQuery}
use Rattle.mq_ir.specs.Answer.{model_rows, partition_step, plain_fault, result_in}
use Rattle.mq_ir.specs.BaseRows.{row_leaves}
use Rattle.mq_ir.specs.Changes.{column_value, inserted_row, rows_changed}
use Rattle.mq_ir.specs.ExpressionLaws.{worth_leaf, worth_lit}
use Rattle.mq_ir.specs.Items.{item_rows, items_at, items_over}
use Rattle.mq_ir.specs.Keys.{Tuple}
use Rattle.mq_ir.specs.Printing.{printed_rows}
use Rattle.mq_ir.specs.Results.{◌>>=◌, each, each_in_turn, marked}
use Rattle.mq_ir.specs.Statement.{change_of_tables, staged}
use Rattle.mq_ir.specs.Tests.{converted}
use Rattle.mq_ir.specs.Worked.{amount}
use Rattle.mq_ir.specs.WorkedScript.{AnswerDownwards, RepeatedKey, doubling, query_with, row, sales_table}
use Rattle.mq_ir.proofs.WorkedLemmas as worked

items : items_over sales_table (query_with []).from (query_with []).items ≡ Ok (row 2000 (amount 1000) ∷ row 2001 (amount 1250) ∷ [])
items = simp (items_over, item_rows, items_at, row_leaves, each, marked, ◌>>=◌, worth_leaf, leaf.outs-Column) refl

-- the answer from the items on
abbrev answer_from : BoundQuery → Result (List Tuple) FaultKind → Answer
answer_from q r =
    elim (marked (plain_fault 0) r >>= (λ items. option_map_or (model_rows sales_table items) q.model (Ok items))) [
      | Ok rows ↦ answer.Rows (printed_rows q rows)
      | Err fault ↦ answer.Fault fault
    ]

abbrev rows : Answer
rows =
    answer.Rows (row 2004 (amount 10000) ∷ row 2003 (amount 5000) ∷ row 2002 (amount 2500) ∷ row 2001 (amount 1250) ∷ row 2000 (amount 1000) ∷ [])

from_items : answer_from (query_with (doubling ∷ [])) (Ok (row 2000 (amount 1000) ∷ row 2001 (amount 1250) ∷ [])) ≡ rows
from_items = simp (answer_from, model_rows, each_in_turn, partition_step, result_in, worked.upserted) refl

pub answer_downwards : AnswerDownwards
answer_downwards = ap (answer_from (query_with (doubling ∷ []))) items ∙ from_items

pub repeated_key : RepeatedKey
repeated_key = simp (change_of_tables, staged, rows_changed, inserted_row, column_value, converted, each, marked, ◌>>=◌, worth_lit) refl
