use Rattle.std.proofs.Common.{◌<◌, length, refl, arith}
use Rattle.mq_auto_shape.specs.LaneRuns.{numbers_in}
use Rattle.mq_auto_shape.proofs.LaneLemmas.{last_open, last_passed, last_within}
use Rattle.mq_auto_shape.proofs.lane_reads.last_open_of.Goals as goal

pub open_at-requires : goal.open_at-requires
open_at-requires c =
    let run = c.args.run in
    let lanes = c.args.numbers.now.lanes in
    let some : run.first < c.looking.past = omega (arith, c.looking-test.true) in
    last_within lanes run.measure c.args.rounds.now (numbers_in lanes run) run.first c.looking.past some c.looking.invariant (λ read. read < length c.args.rounds.now) c.requires

pub returns-in-Some-clause-ends : goal.returns-in-Some-clause-ends
returns-in-Some-clause-ends c =
    let run = c.args.run in
    let lanes = c.args.numbers.now.lanes in
    let some : run.first < c.looking.past = omega (arith, c.looking-test.true) in
    last_open lanes run.measure c.args.rounds.now (numbers_in lanes run) run.first c.looking.past some c.looking.invariant c.in-Some.read c.in-Some.ensures.there c.in-Some.ensures.open

pub looking-preserved : goal.looking-preserved
looking-preserved c =
    let run = c.args.run in
    let lanes = c.args.numbers.now.lanes in
    let some : run.first < c.looking.past = omega (arith, c.looking-test.true) in
    last_passed lanes run.measure c.args.rounds.now (numbers_in lanes run) run.first c.looking.past some c.looking.invariant (c.in_default.ensures.none refl)
