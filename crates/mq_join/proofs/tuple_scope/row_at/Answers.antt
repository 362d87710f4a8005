use Rattle.std.proofs.Common.{length, refl, sym, ◌∙◌}
use Rattle.std.proofs.lemmas.Option.{slice_get_past, slice_get_read}
use Rattle.mq_join.proofs.PartLemmas.{no_item, no_place, row_there}
use Rattle.mq_join.proofs.tuple_scope.row_at.Goals as goal

pub returns-in-Some-get : goal.returns-in-Some-get
returns-in-Some-get c =
    let items = c.args.items.now in
    let places = c.args.places.now in
    let item = c.args.item in
    let a = c.in-Some.ensures.lookup in
    let b = c.in-Some-get.ensures.lookup in
    c.row.ensures
    ∙ sym (row_there items places item c.in-Some.rows.now c.in-Some-get.place.now (slice_get_read items (length items) item c.in-Some.rows.now refl a.3.0 a.1)
    (slice_get_read places (length places) item c.in-Some-get.place.now refl b.3.0 b.1))

pub returns-in-None-get : goal.returns-in-None-get
returns-in-None-get c =
    sym (no_place c.args.items.now c.args.places.now c.args.item (slice_get_past c.args.places.now c.args.item c.in-None-get.ensures.lookup.3))

pub returns-in-None : goal.returns-in-None
returns-in-None c =
    sym (no_item c.args.items.now c.args.places.now c.args.item (slice_get_past c.args.items.now c.args.item c.in-None.ensures.lookup.3))
