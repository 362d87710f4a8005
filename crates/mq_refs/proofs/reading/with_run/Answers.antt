use Rattle.std.proofs.Common.{◌≡◌, ◌-◌, ◌+◌, ℕ, List, [], ◌∷◌, ◌++◌, map, slice_index_or, sym, ap, ◌∙◌, arith}
use Rattle.std.specs.List.{range_with_len}
use Rattle.mq_values.specs.declared.value.Value.{Value}
use Rattle.mq_reads.specs.Aggregation.{comes_to}
use Rattle.mq_cells.specs.Stores.{cell_name}
use Rattle.mq_ir.specs.Keys.{Tuple}
use Rattle.mq_ir.specs.Reads.{Measures}
use Rattle.mq_refs.proofs.FoldLemmas.{next_place_values, no_more_values}
use Rattle.mq_refs.proofs.reading.with_run.Goals as goal

pub loop-place-preserved : goal.loop-place-preserved
loop-place-preserved g c =
    let set = g.K.CellKeys.set c.args.keys.now in
    let now = g.W.Worths.worth c.args.worths.now in
    let place = c.loop-place.place in
    let past = c.args.run.past in
    let value : ℕ → Value = λ p. now (cell_name (slice_index_or set p []) c.args.measure) in
    let rest : List Value = map value (range_with_len (place + 1) (past - (place + 1))) in
    let key : c.as_slice-key.result.now ≡ slice_index_or set place [] = c.as_slice-key.ensures ∙ c.key_at.ensures [] in
    record {
      same = c.with_value.ensures.same ∙ c.loop-place.invariant.same;
      taken = λ values.
          c.in_ok-aggregation.ensures.taken (rest ++ values)
          ∙ ap (λ (w : Measures). comes_to c.loop-place.aggregation (w (cell_name c.as_slice-key.result.now c.args.measure) ∷ (rest ++ values))) c.loop-place.invariant.same
          ∙ ap (λ (k : Tuple). comes_to c.loop-place.aggregation (now (cell_name k c.args.measure) ∷ (rest ++ values))) key
          ∙ ap (comes_to c.loop-place.aggregation) (sym (next_place_values value place past values (omega arith)))
          ∙ c.loop-place.invariant.taken values;
    }

pub returns-clause-taken : goal.returns-clause-taken
returns-clause-taken g c = λ values.
    let set = g.K.CellKeys.set c.args.keys.now in
    let now = g.W.Worths.worth c.args.worths.now in
    let value : ℕ → Value = λ p. now (cell_name (slice_index_or set p []) c.args.measure) in
    ap (comes_to c.loop-place.aggregation) (sym (no_more_values value c.loop-place.place c.args.run.past values (omega arith))) ∙ c.loop-place.invariant.taken values
