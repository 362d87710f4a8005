use Rattle.std.proofs.Common.{ℕ, ◌+◌, drop, map, ap, ◌∙◌, arith}
use Rattle.mq_values.specs.declared.value.Value.{Value}
use Rattle.mq_dim_index.specs.PlaceRuns.{numbers_of}
use Rattle.mq_reads.specs.Aggregation.{comes_to}
use Rattle.mq_refs.proofs.FoldLemmas.{next_run_values}
use Rattle.mq_refs.proofs.lenders.aggregate_lent.Goals as goal

pub loop-run-preserved : goal.loop-run-preserved
loop-run-preserved g c =
    let value : ℕ → Value = g.L.Lender.value c.args.lender.now in
    let runs = c.args.runs.now in
    let i = c.loop-run.run-index in
    c.in_ok-aggregation.ensures (map value (numbers_of (drop (i + 1) runs)))
    ∙ ap (comes_to c.loop-run.aggregation) (next_run_values value runs i _ (omega arith))
    ∙ c.loop-run.invariant
