use Rattle.std.proofs.Common.{[], List, ℕ, map, slice_index_or, sym, subst, ap, ◌∙◌}
use Rattle.mq_values.specs.Aggregate.{aggregate}
use Rattle.mq_values.specs.Answers.{Gives}
use Rattle.mq_values.specs.declared.value.Value.{Value}
use Rattle.mq_dim_index.specs.PlaceRuns.{numbers_of}
use Rattle.mq_dim_index.specs.declared.place_runs.PlaceRun.{PlaceRun}
use Rattle.mq_ir.specs.Keys.{Tuple}
use Rattle.mq_ir.specs.Reads.{Measures}
use Rattle.mq_cells.specs.Stores.{cell_name}
use Rattle.mq_refs.proofs.FoldLemmas.{values_at}
use Rattle.mq_refs.proofs.reading.aggregate_of.Goals as goal

pub returns-in-Some-clause-exact : goal.returns-in-Some-clause-exact
returns-in-Some-clause-exact g c =
    let now : Measures = g.W.Worths.worth c.args.worths.now in
    let key_at : ℕ → Tuple = λ place. slice_index_or (g.K.CellKeys.set c.args.keys.now) place [] in
    let of : Measures → Tuple → Value = λ w key. w (cell_name key c.args.measure) in
    let runs = c.as_slice.result.now in
    subst (Gives c.aggregate_lent.result)
    (ap (λ (w : Measures). aggregate c.args.agg (map (λ place. of w (key_at place)) (numbers_of runs))) (sym c.in-Some.ensures)
    ∙ ap (aggregate c.args.agg)
    (values_at (of now) key_at (numbers_of runs)
    ∙ ap (map (of now)) (ap (λ (rs : List PlaceRun). map key_at (numbers_of rs)) c.as_slice.ensures.value ∙ c.in_ok-runs.ensures.keys [])))
    c.aggregate_lent.ensures

pub returns-clause-exact : goal.returns-clause-exact
returns-clause-exact g c =
    let now : Measures = g.W.Worths.worth c.args.worths.now in
    let key_at : ℕ → Tuple = λ place. slice_index_or (g.K.CellKeys.set c.args.keys.now) place [] in
    let of : Tuple → Value = λ key. now (cell_name key c.args.measure) in
    let runs = c.as_slice-in-None.result.now in
    subst (Gives c.aggregate_read.result)
    (ap (aggregate c.args.agg)
    (values_at of key_at (numbers_of runs)
    ∙ ap (map of) (ap (λ (rs : List PlaceRun). map key_at (numbers_of rs)) c.as_slice-in-None.ensures.value ∙ c.in_ok-runs.ensures.keys [])))
    c.aggregate_read.ensures.exact
