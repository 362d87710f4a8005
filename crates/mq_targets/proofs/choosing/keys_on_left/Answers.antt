use Rattle.std.proofs.Common.{map, ap, ◌∙◌}
use Rattle.std.specs.List.{filter}
use Rattle.std.proofs.lemmas.Result.{IfOk-weaker}
use Rattle.mq_dim_index.specs.Places.{meets_every}
use Rattle.mq_targets.specs.Choice.{test_at}
use Rattle.mq_targets.proofs.PlaceLemmas.{those_that_meet}
use Rattle.mq_targets.proofs.choosing.keys_on_left.Goals as goal

pub returns-clause-found : goal.returns-clause-found
returns-clause-found c =
    let tests = c.deref.ensures.value ∙ c.in_ok-tests.ensures ∙ ap (map test_at) c.as_slice.ensures in
    IfOk-weaker c.keys_meeting.result _ _
    (λ found e. e ∙ (λ i. filter (meets_every (tests i)) c.args.keys.now) ∙ those_that_meet c.args.left.now c.args.keys.now)
    c.keys_meeting.ensures.found
