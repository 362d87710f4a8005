use Rattle.std.proofs.Common.{◌≡◌, None, Some, sym, ap, ◌∙◌}
use Rattle.std.proofs.lemmas.Result.{on_ok_weaker}
use Rattle.mq_dim_index.specs.Places.{place_of}
use Rattle.mq_delta_cells.proofs.StartLemmas.{missing_kept, missing_put, placed_among, unplaced_among}
use Rattle.mq_delta_cells.proofs.starting.put_if_missing.Goals as goal

pub returns-in-Some : goal.returns-in-Some
returns-in-Some c =
    let at : place_of c.args.others.now c.args.key.now ≡ Some c.in-Some.place = ap (place_of c.args.others.now) (sym c.as_slice.ensures) ∙ sym c.place_near.ensures ∙ c.in-Some.is in
    λ q. missing_kept q c.args.key.now c.args.odd.now c.args.others.now (placed_among c.args.others.now c.args.key.now c.in-Some.place at)

pub returns-in_ok-copy-in-None : goal.returns-in_ok-copy-in-None
returns-in_ok-copy-in-None c =
    let none : place_of c.args.others.now c.args.key.now ≡ None = ap (place_of c.args.others.now) (sym c.as_slice.ensures) ∙ sym c.place_near.ensures ∙ c.in-None.is in
    on_ok_weaker c.put.result
    (λ put q. missing_put q c.args.key.now c.in_ok-copy-in-None.field-0 c.args.odd.now c.put.new.self c.args.others.now (unplaced_among c.args.others.now c.args.key.now none)
    c.in_ok-copy-in-None.ensures put) c.put.ensures.ok
