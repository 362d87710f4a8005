use Rattle.std.proofs.Common.{◌≡◌, ◌-◌, List, [], ◌++◌, map, slice_index_or}
use Rattle.std.specs.List.{range_with_len}
use Rattle.mq_values.specs.declared.value.Value.{Value}
use Rattle.mq_reads.specs.Aggregation.{comes_to}
use Rattle.mq_cells.specs.Stores.{cell_name}
use Rattle.mq_refs.proofs.reading.with_run.Given as goal

-- what the aggregate comes to with the places of the run that are left
abbrev pub invariant-loop-place : goal.invariant-loop-place
invariant-loop-place g l = record {
  same : g.W.Worths.worth l.worths ≡ g.W.Worths.worth l.fn.worths;
  taken : (values : List Value) →
      comes_to l.aggregation
      (map (λ place. g.W.Worths.worth l.fn.worths (cell_name (slice_index_or (g.K.CellKeys.set l.keys) place []) l.measure)) (range_with_len l.place (l.fn.run.past - l.place)) ++ values)
      ≡ comes_to l.fn.aggregation
      (map (λ place. g.W.Worths.worth l.fn.worths (cell_name (slice_index_or (g.K.CellKeys.set l.keys) place []) l.measure)) (range_with_len l.fn.run.first (l.fn.run.past - l.fn.run.first)) ++ values);
}
