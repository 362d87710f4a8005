use Rattle.std.proofs.Common.{◌-◌, ◌+◌, ℕ, List, Ok, ◌∷◌, ◌++◌, map, sym, ap, ◌∙◌, arith}
use Rattle.std.specs.List.{range_with_len}
use Rattle.std.proofs.lemmas.Result.{err_from_is_err_and}
use Rattle.mq_values.specs.declared.value.Value.{Value}
use Rattle.mq_reads.specs.Aggregation.{comes_to, sum_at}
use Rattle.mq_refs.proofs.FoldLemmas.{next_place_values, no_more_values}
use Rattle.mq_refs.proofs.lenders.sum_of.Goals as goal

pub loop-place-preserved : goal.loop-place-preserved
loop-place-preserved g c = λ values.
    let place = c.loop-place.place in
    let past = c.args.run.past in
    let value : ℕ → Value = g.L.Lender.value c.args.lender.now in
    let rest : List Value = map value (range_with_len (place + 1) (past - (place + 1))) in
    c.in_ok-add_summand.ensures (rest ++ values)
    ∙ ap (λ (v : Value). comes_to (sum_at (Ok c.loop-place.total)) (v ∷ (rest ++ values))) c.lend.ensures
    ∙ ap (comes_to (sum_at (Ok c.loop-place.total))) (sym (next_place_values value place past values (omega arith)))
    ∙ c.loop-place.invariant values

pub returns-in_err-add_summand : goal.returns-in_err-add_summand
returns-in_err-add_summand g c = λ values.
    let place = c.loop-place.place in
    let past = c.args.run.past in
    let value : ℕ → Value = g.L.Lender.value c.args.lender.now in
    let rest : List Value = map value (range_with_len (place + 1) (past - (place + 1))) in
    let p = err_from_is_err_and c.from_residual.result c.from_residual.ensures.1 in
    rw (p.1, p.2)
    (c.in_err-add_summand.ensures (rest ++ values)
    ∙ ap (λ (v : Value). comes_to (sum_at (Ok c.loop-place.total)) (v ∷ (rest ++ values))) c.lend.ensures
    ∙ ap (comes_to (sum_at (Ok c.loop-place.total))) (sym (next_place_values value place past values (omega arith)))
    ∙ c.loop-place.invariant values)

pub returns : goal.returns
returns g c = λ values.
    let value : ℕ → Value = g.L.Lender.value c.args.lender.now in
    ap (comes_to (sum_at (Ok c.loop-place.total))) (sym (no_more_values value c.loop-place.place c.args.run.past values (omega arith))) ∙ c.loop-place.invariant values
