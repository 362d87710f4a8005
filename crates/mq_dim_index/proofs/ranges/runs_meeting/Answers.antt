use Rattle.std.proofs.Common.{length, sym, subst, ◌∙◌}
use Rattle.mq_dim_index.specs.PlaceRuns.{RisesFrom}
use Rattle.mq_dim_index.proofs.PlaceRunLemmas.{meeting_rise}
use Rattle.mq_dim_index.proofs.RunLemmas.{ascend_first}
use Rattle.mq_dim_index.proofs.ranges.runs_meeting.Goals as goal

pub count_in_runs-most-requires : goal.count_in_runs-most-requires
count_in_runs-most-requires c = ascend_first c.args.keys.now c.requires.ascending

pub runs_of-requires-clause-ascending : goal.runs_of-requires-clause-ascending
runs_of-requires-clause-ascending c =
    subst (RisesFrom 0 (length c.args.keys.now)) (sym (c.as_slice.ensures.value ∙ c.in_ok-places-in-Some-shortest_map.ensures)) (meeting_rise c.args.tests.now c.args.keys.now)
