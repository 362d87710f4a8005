use Rattle.std.proofs.Common.{map, ap, ◌∙◌}
use Rattle.std.specs.List.{filter}
use Rattle.std.proofs.lemmas.Result.{IfOk-weaker}
use Rattle.mq_dim_index.specs.Places.{meets_every}
use Rattle.mq_targets.specs.Choice.{symbol_at}
use Rattle.mq_targets.proofs.PlaceLemmas.{those_with_symbols}
use Rattle.mq_targets.proofs.choosing.keys_with_symbols.Goals as goal

pub returns : goal.returns
returns c =
    let tests = c.deref.ensures.value ∙ c.in_ok-tests.ensures ∙ ap (map symbol_at) c.as_slice.ensures in
    IfOk-weaker c.keys_meeting.result _ _
    (λ found e. e ∙ (λ i. filter (meets_every (tests i)) c.args.keys.now) ∙ those_with_symbols c.args.left.now c.args.keys.now)
    c.keys_meeting.ensures.found
