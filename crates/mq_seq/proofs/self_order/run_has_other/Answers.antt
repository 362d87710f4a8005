use Rattle.std.proofs.Common.{◌≡◌, ◌<◌, ◌≤◌, [], true, false, ap, sym, arith, ◌∙◌}
use Rattle.std.specs.Prelude.{slice_index_or}
use Rattle.mq_seq.specs.Steps.{is_other}
use Rattle.mq_seq.proofs.SelfOrderLemmas.{place_found, place_passed, places_done}
use Rattle.mq_seq.proofs.self_order.run_has_other.Goals as goal

pub returns-then-is_other : goal.returns-then-is_other
returns-then-is_other g c =
    let cells = g.K.CellKeys.set c.args.cells.now in
    let place = c.loop-place.place in
    let p = is_other c.args.set.now c.args.target.now in
    let lt : place < c.args.past = omega arith in
    let here : p (slice_index_or cells place []) ≡ true = ap p (sym (c.key_at.ensures [])) ∙ sym c.is_other.ensures ∙ c.if-is_other.true in
    sym (place_found p cells place c.args.past c.requires lt here) ∙ c.loop-place.invariant

pub loop-place-preserved : goal.loop-place-preserved
loop-place-preserved g c =
    let cells = g.K.CellKeys.set c.args.cells.now in
    let place = c.loop-place.place in
    let p = is_other c.args.set.now c.args.target.now in
    let lt : place < c.args.past = omega arith in
    let here : p (slice_index_or cells place []) ≡ false = ap p (sym (c.key_at.ensures [])) ∙ sym c.is_other.ensures ∙ c.if-is_other.false in
    sym (place_passed p cells place c.args.past c.requires lt here) ∙ c.loop-place.invariant

pub returns : goal.returns
returns g c =
    let cells = g.K.CellKeys.set c.args.cells.now in
    let p = is_other c.args.set.now c.args.target.now in
    let le : c.args.past ≤ c.loop-place.place = omega arith in
    sym (places_done p cells c.loop-place.place c.args.past le) ∙ c.loop-place.invariant
