use Rattle.std.proofs.Common.{◌≡◌, drop}
use Rattle.mq_values.specs.Aggregate.{aggregate}
use Rattle.mq_values.specs.Tally.{outcome}
use Rattle.mq_reads.proofs.aggregates.aggregate.Given as goal

-- what the tally comes to with the values that are left is what they all come to
abbrev pub invariant-loop-value : goal.invariant-loop-value
invariant-loop-value l = outcome l.tally (drop l.value-index l.values) ≡ aggregate l.fn.agg l.fn.values
