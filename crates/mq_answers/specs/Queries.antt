-- The rows of queries.
use Rattle.std.specs.Prelude.{List, Result, Ok, Err}
use Rattle.mq_values.specs.Answers.{result_map}
use Rattle.mq_values.specs.declared.faults.QueryFault.{QueryFault}
use Rattle.mq_ir.specs.declared.query.Answer.{Answer}
use Rattle.mq_ir.specs.declared.query.Answer.TheVariants as answer
use Rattle.mq_ir.specs.declared.query.BoundQuery.{BoundQuery}
use Rattle.mq_ir.specs.Answer.{query_rows}
use Rattle.mq_ir.specs.Partitions.{Tuple}
use Rattle.mq_ir.specs.Printing.{printed_rows}
use Rattle.mq_ir.specs.Tables.{Tables}

-- the rows of a query as they are printed, or its first fault
abbrev pub rows_shown : Tables → BoundQuery → Result (List Tuple) QueryFault
rows_shown tables q = result_map (printed_rows q) (query_rows tables q)

-- the same as an answer
abbrev pub shown_of : Result (List Tuple) QueryFault → Answer
shown_of (Ok rows) = answer.Rows rows
shown_of (Err fault) = answer.Fault fault
