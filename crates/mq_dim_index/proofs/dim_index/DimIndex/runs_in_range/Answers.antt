use Rattle.std.proofs.Common.{◌≡◌, List, length, get_or, map, subst, ap, ◌∙◌}
use Rattle.std.proofs.lemmas.Result.{IfOk-weaker}
use Rattle.mq_dim_index.specs.PlaceRuns.{AreRuns}
use Rattle.mq_dim_index.specs.Places.{Tuple, places_meeting}
use Rattle.mq_dim_index.proofs.PlaceRunLemmas.{each_within}
use Rattle.mq_dim_index.proofs.RangeLemmas.{keys_at_places}
use Rattle.mq_dim_index.proofs.dim_index.DimIndex.runs_in_range.Goals as goal

pub returns-clause-below : goal.returns-clause-below
returns-clause-below c =
    let seen : c.as_slice.result.now ≡ c.args.self.now = cc in
    IfOk-weaker c.runs_meeting.result _ _
    (λ runs apart. each_within runs.items 0 (length c.args.self.now) (subst (λ (keys : List Tuple). AreRuns 0 (length keys) runs.items) seen apart))
    c.runs_meeting.ensures.apart

pub returns-clause-keys : goal.returns-clause-keys
returns-clause-keys c other =
    let seen : c.as_slice.result.now ≡ c.args.self.now = cc in
    IfOk-weaker c.runs_meeting.result _ _
    (λ runs e. ap (map (λ place. get_or c.args.self.now place other)) (e ∙ ap (places_meeting c.args.tests.now) seen) ∙ keys_at_places c.args.tests.now c.args.self.now other)
    c.runs_meeting.ensures.numbers
