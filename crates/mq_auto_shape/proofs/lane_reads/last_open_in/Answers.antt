use Rattle.std.proofs.Common.{◌<◌, length, take, refl, subst, arith}
use Rattle.mq_levels.specs.Places.{IsLeft}
use Rattle.mq_auto_shape.specs.LaneRuns.{left_of, numbers_in, numbers_of}
use Rattle.mq_auto_shape.proofs.LaneLemmas.{behind_within, found_in_run, left_within, run_passed, whole_last}
use Rattle.mq_auto_shape.proofs.lane_reads.last_open_in.Goals as goal

pub last_open_of-requires : goal.last_open_of-requires
last_open_of-requires c =
    let lanes = c.args.numbers.now.lanes in
    let rounds = c.args.rounds.now in
    let runs = c.args.runs.now in
    behind_within (λ read. read < length rounds) (numbers_of lanes (take c.looking.at.whole runs)) (numbers_in lanes c.looking.at.run)
    (left_within (λ read. read < length rounds) rounds (left_of lanes runs c.args.place) (left_of lanes runs c.looking.at) c.looking.invariant.1 c.requires.within)

pub returns-in-Some-clause-ends : goal.returns-in-Some-clause-ends
returns-in-Some-clause-ends c =
    let lanes = c.args.numbers.now.lanes in
    let runs = c.args.runs.now in
    found_in_run lanes c.args.rounds.now (left_of lanes runs c.args.place) runs c.looking.at c.in-Some.open.place c.in-Some.open.read c.looking.invariant.1 c.in-Some.ensures.ends

pub looking-preserved : goal.looking-preserved
looking-preserved c =
    let lanes = c.args.numbers.now.lanes in
    let rounds = c.args.rounds.now in
    let runs = c.args.runs.now in
    let less = c.looking.invariant.0 in
    let passed = run_passed lanes rounds (left_of lanes runs c.args.place) runs c.looking.at c.looking.invariant.1 (c.in_default.ensures.none refl) in
    (omega arith, subst (IsLeft rounds (left_of lanes runs c.args.place)) (whole_last lanes runs c.looking.at.whole (record { measure = 0; first = 0; past = 0 }) (omega arith) (omega arith)) passed)
