use Rattle.std.proofs.Common.{◌-◌, ◌<◌, length, arith, rules}
use Rattle.std.specs.List.{range_with_len}
use Rattle.mq_levels.proofs.RunLemmas.{run_passed, run_within}
use Rattle.mq_levels.proofs.runs.open_count.Goals as goal

pub bounds-numbers-start : goal.bounds-numbers-start
bounds-numbers-start c =
    let less = c.loop-left.invariant.0 in
    run_within (λ read. read < length c.args.numbers.now) c.args.start c.args.count (c.loop-left.left - 1) (omega arith) c.requires

pub loop-left-preserved : goal.loop-left-preserved
loop-left-preserved c =
    let less = c.loop-left.invariant.0 in
    (omega arith, run_passed c.args.numbers.now (range_with_len c.args.start c.args.count) c.args.start c.loop-left.left (omega arith) c.loop-left.invariant.1 (search rules))
