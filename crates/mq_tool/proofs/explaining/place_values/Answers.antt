use Rattle.std.proofs.Common.{Ok, sym, ap, ◌∙◌}
use Rattle.std.specs.List.{zip}
use Rattle.std.proofs.lemmas.Result.{err_from_is_err_and}
use Rattle.mq_scalar.specs.WalkLaws.{walk_end, walk_exit, walk_next, walk_start}
use Rattle.mq_tool.specs.Places.{value_at_place}
use Rattle.mq_tool.proofs.ExplainLemmas.{in_pairs, pair_there, pairs_end, pairs_stop}
use Rattle.mq_tool.proofs.explaining.place_values.Goals as goal

pub places-init : goal.places-init
places-init c = rw c.with_room-values.ensures (walk_start (λ (k, e). value_at_place k e) (zip c.args.kinds.now c.args.es.now))

pub returns-in_err-place_value-in-Some : goal.returns-in_err-place_value-in-Some
returns-in_err-place_value-in-Some c =
    let kinds = c.args.kinds.now in
    let es = c.args.es.now in
    let i = c.places.at in
    let k = c.in-Some.kind.now in
    let e = c.index-es-at.result in
    let p = err_from_is_err_and c.from_residual.result c.from_residual.ensures.1 in
    rw (p.1, p.2)
    (walk_exit (λ (k, e). value_at_place k e) (zip kinds es) i c.places.values (k, e) c.in_err-place_value-in-Some.field-0.0 (in_pairs kinds es i c.in-Some.ensures.lookup.3.0 c.places-test.true)
    (pair_there kinds es i k e c.in-Some.ensures.lookup.3.0 c.in-Some.ensures.lookup.1 c.places-test.true c.index-es-at.is) c.places.invariant c.in_err-place_value-in-Some.ensures)

pub places-preserved : goal.places-preserved
places-preserved c =
    let kinds = c.args.kinds.now in
    let es = c.args.es.now in
    let i = c.places.at in
    let k = c.in-Some.kind.now in
    let e = c.index-es-at.result in
    rw c.in_ok-push-in-Some.ensures.ok
    (walk_next (λ (k, e). value_at_place k e) (zip kinds es) i c.places.values (k, e) c.in_ok-place_value-in-Some.field-0 (in_pairs kinds es i c.in-Some.ensures.lookup.3.0 c.places-test.true)
    (pair_there kinds es i k e c.in-Some.ensures.lookup.3.0 c.in-Some.ensures.lookup.1 c.places-test.true c.index-es-at.is) c.in_ok-place_value-in-Some.ensures c.places.invariant)

pub returns-in-None : goal.returns-in-None
returns-in-None c =
    let kinds = c.args.kinds.now in
    let es = c.args.es.now in
    walk_end (λ (k, e). value_at_place k e) (zip kinds es) c.places.at c.places.values (pairs_stop kinds es c.places.at c.in-None.ensures.lookup.3) c.places.invariant
    ∙ ap Ok (sym c.in_ok-new-in-None.ensures)

pub returns : goal.returns
returns c =
    let kinds = c.args.kinds.now in
    let es = c.args.es.now in
    walk_end (λ (k, e). value_at_place k e) (zip kinds es) c.places.at c.places.values (pairs_end kinds es c.places.at c.places-test.false) c.places.invariant
    ∙ ap Ok (sym c.in_ok-new.ensures)
