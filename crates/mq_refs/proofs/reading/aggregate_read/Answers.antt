use Rattle.std.proofs.Common.{[], List, ℕ, ◌+◌, drop, map, slice_index_or, sym, ap, ◌∙◌, arith}
use Rattle.mq_values.specs.declared.value.Value.{Value}
use Rattle.mq_dim_index.specs.PlaceRuns.{numbers_of}
use Rattle.mq_ir.specs.Reads.{Measures}
use Rattle.mq_reads.specs.Aggregation.{comes_to}
use Rattle.mq_cells.specs.Stores.{cell_name}
use Rattle.mq_refs.proofs.FoldLemmas.{next_run_values}
use Rattle.mq_refs.proofs.reading.aggregate_read.Goals as goal

pub loop-run-preserved : goal.loop-run-preserved
loop-run-preserved g c =
    let set = g.K.CellKeys.set c.args.keys.now in
    let value : Measures → ℕ → Value = λ w place. w (cell_name (slice_index_or set place []) c.args.measure) in
    let before : Measures = g.W.Worths.worth c.loop-run.worths in
    let runs = c.args.runs.now in
    let i = c.loop-run.run-index in
    let rest : Measures → List Value = λ w. map (value w) (numbers_of (drop (i + 1) runs)) in
    record {
      same = c.with_run.ensures.same ∙ c.loop-run.invariant.same;
      meant =
          ap (λ (w : Measures). comes_to c.in_ok-aggregation.aggregation (rest w)) (sym c.loop-run.invariant.same)
          ∙ c.in_ok-aggregation.ensures.taken (rest before)
          ∙ ap (comes_to c.loop-run.aggregation) (next_run_values (value before) runs i _ (omega arith))
          ∙ ap (λ (w : Measures). comes_to c.loop-run.aggregation (map (value w) (numbers_of (drop i runs)))) c.loop-run.invariant.same
          ∙ c.loop-run.invariant.meant;
    }
