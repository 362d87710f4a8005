-- An aggregate on its way, whose fault waits until all values are taken.
use Rattle.std.specs.Prelude.{List, Option, Result, Ok, Err}
use Rattle.mq_values.specs.Number.{Number}
use Rattle.mq_values.specs.Tally.{outcome}
use Rattle.mq_values.specs.declared.faults.ValueFault.{ValueFault}
use Rattle.mq_values.specs.declared.tally.Tally.TheVariants as tally_of
use Rattle.mq_values.specs.declared.value.Value.{Value}
use Rattle.mq_reads.specs.declared.aggregates.Aggregation.{Aggregation}
use Rattle.mq_reads.specs.declared.aggregates.Aggregation.TheVariants as aggregation

-- what it comes to with the values that are still to come
abbrev pub comes_to : Aggregation → List Value → Result Value ValueFault
comes_to (aggregation.Running tally) values = outcome tally values
comes_to (aggregation.Faulted fault) values = Err fault

-- a sum on its way, by the total of its numbers so far, or where it left the range
abbrev pub sum_at : Result (Option Number) ValueFault → Aggregation
sum_at (Ok total) = aggregation.Running (tally_of.Sum total)
sum_at (Err fault) = aggregation.Faulted fault

-- the total once a value was taken, or the fault of that
abbrev pub sum_after : Option Number → Result (Unit {0}) ValueFault → Result (Option Number) ValueFault
sum_after total (Ok _) = Ok total
sum_after total (Err fault) = Err fault
