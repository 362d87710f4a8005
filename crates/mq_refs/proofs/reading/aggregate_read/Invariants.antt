use Rattle.std.proofs.Common.{◌≡◌, [], drop, map, slice_index_or}
use Rattle.mq_values.specs.Aggregate.{aggregate}
use Rattle.mq_dim_index.specs.PlaceRuns.{numbers_of}
use Rattle.mq_reads.specs.Aggregation.{comes_to}
use Rattle.mq_cells.specs.Stores.{cell_name}
use Rattle.mq_refs.proofs.reading.aggregate_read.Given as goal

-- what the aggregate comes to with the runs that are left
abbrev pub invariant-loop-run : goal.invariant-loop-run
invariant-loop-run g l = record {
  same : g.W.Worths.worth l.worths ≡ g.W.Worths.worth l.fn.worths;
  meant :
      comes_to l.aggregation
      (map (λ place. g.W.Worths.worth l.fn.worths (cell_name (slice_index_or (g.K.CellKeys.set l.keys) place []) l.measure)) (numbers_of (drop l.run-index l.runs)))
      ≡ aggregate l.fn.agg
      (map (λ place. g.W.Worths.worth l.fn.worths (cell_name (slice_index_or (g.K.CellKeys.set l.keys) place []) l.measure)) (numbers_of l.fn.runs));
}
