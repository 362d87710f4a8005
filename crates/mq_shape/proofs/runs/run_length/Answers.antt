use Rattle.std.proofs.Common.{◌≡◌, true}
use Rattle.std.specs.Ordering.{is_ne}
use Rattle.mq_shape.specs.Runs.{by_parts}
use Rattle.mq_shape.proofs.RunLemmas.{in_run_stop}
use Rattle.mq_shape.proofs.runs.run_length.Goals as goal

pub returns-then-is_ne-clause-run : goal.returns-then-is_ne-clause-run
returns-then-is_ne-clause-run c =
    let differs : is_ne (by_parts c.args.parts c.args.first.now c.row-item.result) ≡ true = cc in
    rw c.loop-row.invariant.count
    (in_run_stop c.args.parts c.args.first.now c.args.rows.now c.loop-row.row-index c.row-item.result c.loop-row-test.true c.row-item.is differs c.loop-row.invariant.run).run

pub returns-then-is_ne-clause-others : goal.returns-then-is_ne-clause-others
returns-then-is_ne-clause-others c =
    let differs : is_ne (by_parts c.args.parts c.args.first.now c.row-item.result) ≡ true = cc in
    rw c.loop-row.invariant.count
    (in_run_stop c.args.parts c.args.first.now c.args.rows.now c.loop-row.row-index c.row-item.result c.loop-row-test.true c.row-item.is differs c.loop-row.invariant.run).others
