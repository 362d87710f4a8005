use Rattle.std.proofs.Common.{◌<◌, sym, arith}
use Rattle.mq_auto_shape.specs.LaneRuns.{numbers_in}
use Rattle.mq_auto_shape.proofs.LaneLemmas.{none_first}
use Rattle.mq_auto_shape.proofs.lane_reads.first_of.Goals as goal

pub looking-preserved : goal.looking-preserved
looking-preserved c =
    let lanes = c.args.numbers.now.lanes in
    let some : c.looking.at < c.args.run.past = omega (arith, c.looking-test.true) in
    none_first lanes c.args.run.measure (numbers_in lanes c.args.run) c.looking.at c.args.run.past some c.looking.invariant (sym c.in_default.ensures)
