use Rattle.std.proofs.Common.{[], List, ℕ, map, slice_index_or, subst, ap, ◌∙◌}
use Rattle.mq_values.specs.Aggregate.{aggregate}
use Rattle.mq_values.specs.Answers.{Gives}
use Rattle.mq_values.specs.declared.value.Value.{Value}
use Rattle.mq_dim_index.specs.PlaceRuns.{numbers_of}
use Rattle.mq_dim_index.specs.declared.place_runs.PlaceRun.{PlaceRun}
use Rattle.mq_ir.specs.Keys.{Tuple}
use Rattle.mq_cells.specs.IndexedStores.{keys_in, value_in}
use Rattle.mq_cells.specs.Stores.{cell_name}
use Rattle.mq_refs.proofs.FoldLemmas.{values_at}
use Rattle.mq_refs.proofs.lent.aggregate_meeting.Goals as goal

pub returns : goal.returns
returns c =
    let store = c.args.store.now in
    let key_at : ℕ → Tuple = λ place. slice_index_or (keys_in store) place [] in
    let of : Tuple → Value = λ key. value_in store (cell_name key c.args.measure) in
    let runs = c.as_slice.result.now in
    subst (Gives c.aggregate_lent.result)
    (ap (aggregate c.args.agg)
    (values_at of key_at (numbers_of runs)
    ∙ ap (map of) (ap (λ (runs : List PlaceRun). map key_at (numbers_of runs)) c.as_slice.ensures.value ∙ c.in_ok-runs.ensures.keys [])))
    c.aggregate_lent.ensures
