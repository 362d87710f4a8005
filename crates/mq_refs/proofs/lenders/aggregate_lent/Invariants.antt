use Rattle.std.proofs.Common.{◌≡◌, drop, map}
use Rattle.mq_values.specs.Aggregate.{aggregate}
use Rattle.mq_dim_index.specs.PlaceRuns.{numbers_of}
use Rattle.mq_reads.specs.Aggregation.{comes_to}
use Rattle.mq_refs.proofs.lenders.aggregate_lent.Given as goal

-- what the aggregate comes to with the runs that are left
abbrev pub invariant-loop-run : goal.invariant-loop-run
invariant-loop-run g l =
    comes_to l.aggregation (map (g.L.Lender.value l.lender) (numbers_of (drop l.run-index l.runs))) ≡ aggregate l.fn.agg (map (g.L.Lender.value l.lender) (numbers_of l.fn.runs))
