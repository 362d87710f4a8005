use Rattle.std.proofs.Common.{◌≡◌, drop}
use Rattle.csv.specs.Records.{fields_of}
use Rattle.mq_csvload.specs.Loading.{is_header}
use Rattle.mq_csvload.proofs.header.is_header.Given as goal

abbrev pub invariant-columns : goal.invariant-columns
invariant-columns l = is_header (drop l.at l.cols) (drop l.at (fields_of l.header)) ≡ is_header l.cols (fields_of l.header)
