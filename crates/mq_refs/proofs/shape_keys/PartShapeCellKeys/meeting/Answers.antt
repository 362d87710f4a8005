use Rattle.std.proofs.Common.{◌<◌, length, get_or, map, sym, subst, ap, ◌∙◌}
use Rattle.std.specs.List.{All}
use Rattle.std.proofs.lemmas.Result.{IfOk-weaker}
use Rattle.mq_dim_index.specs.Places.{places_meeting}
use Rattle.mq_refs.proofs.RangeLemmas.{keys_at_places, places_below}
use Rattle.mq_refs.proofs.shape_keys.PartShapeCellKeys.meeting.Goals as goal

pub returns-clause-below : goal.returns-clause-below
returns-clause-below c =
    let keys = c.args.self.now.cells in
    let tests = c.args.tests.now in
    IfOk-weaker c.places_among.result _ _
    (λ places e. subst (All (λ place. place < length keys)) (sym (e ∙ ap (places_meeting tests) c.as_slice-keys.ensures)) (places_below tests keys))
    c.places_among.ensures

pub returns-clause-keys : goal.returns-clause-keys
returns-clause-keys c other =
    let keys = c.args.self.now.cells in
    let tests = c.args.tests.now in
    IfOk-weaker c.places_among.result _ _
    (λ places e. ap (map (λ place. get_or keys place other)) (e ∙ ap (places_meeting tests) c.as_slice-keys.ensures) ∙ keys_at_places tests keys other)
    c.places_among.ensures
