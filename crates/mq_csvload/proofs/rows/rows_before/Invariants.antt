use Rattle.std.specs.List.{enumerate_from}
use Rattle.mq_csvload.specs.Left.{Goes, left_of}
use Rattle.mq_csvload.specs.Loading.{row_of}
use Rattle.mq_csvload.proofs.WalkLemmas.{Walked}
use Rattle.mq_csvload.proofs.rows.rows_before.Given as goal

abbrev pub invariant-records : goal.invariant-records
invariant-records l =
    Goes l.reader × Walked (row_of l.cols) (enumerate_from 1 (left_of l.fn.reader)) (enumerate_from l.number (left_of l.reader)) l.rows.items
