use Rattle.std.proofs.Common.{◌≡◌, ◌<◌, length, get_or, map, sym, subst, ap, ◌∙◌}
use Rattle.std.specs.List.{All}
use Rattle.std.proofs.lemmas.Result.{IfOk-weaker}
use Rattle.mq_dim_index.specs.Places.{places_meeting}
use Rattle.mq_dim_index.proofs.RangeLemmas.{keys_at_places, places_below}
use Rattle.mq_dim_index.proofs.dim_index.DimIndex.in_range.Goals as goal

pub returns-clause-below : goal.returns-clause-below
returns-clause-below c =
    let seen : c.as_slice.result.now ≡ c.args.self.now = cc in
    IfOk-weaker c.places_meeting.result _ _
    (λ places e. subst (All (λ place. place < length c.args.self.now)) (sym (e ∙ ap (places_meeting c.args.tests.now) seen)) (places_below c.args.tests.now c.args.self.now))
    c.places_meeting.ensures

pub returns-clause-keys : goal.returns-clause-keys
returns-clause-keys c other =
    let seen : c.as_slice.result.now ≡ c.args.self.now = cc in
    IfOk-weaker c.places_meeting.result _ _
    (λ places e. ap (map (λ place. get_or c.args.self.now place other)) (e ∙ ap (places_meeting c.args.tests.now) seen) ∙ keys_at_places c.args.tests.now c.args.self.now other)
    c.places_meeting.ensures
