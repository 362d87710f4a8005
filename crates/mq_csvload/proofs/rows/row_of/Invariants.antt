use Rattle.std.proofs.Common.{drop}
use Rattle.std.specs.List.{zip}
use Rattle.csv.specs.Records.{fields_of}
use Rattle.mq_csvload.specs.Loading.{value_of}
use Rattle.mq_csvload.proofs.WalkLemmas.{Walked}
use Rattle.mq_csvload.proofs.rows.row_of.Given as goal

abbrev pub invariant-columns : goal.invariant-columns
invariant-columns l =
    Walked (value_of l.number) (zip l.cols (fields_of l.fields)) (zip (drop l.at l.cols) (drop l.at (fields_of l.fields))) l.values
