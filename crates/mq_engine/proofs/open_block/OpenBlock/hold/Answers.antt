use Rattle.std.proofs.Common.{◌≤◌, Ok, Err, arith}
use Rattle.std.proofs.lemmas.Result.{err_from_is_err_and}
use Rattle.mq_values.specs.declared.limits.TheConstants.{MAX_ROWS}
use Rattle.mq_engine.proofs.BlockLemmas.{held_as}
use Rattle.mq_engine.proofs.StageLemmas.{held_count}
use Rattle.mq_engine.proofs.open_block.OpenBlock.hold.Goals as goal

pub returns-in_err-count-clause-exact : goal.returns-in_err-count-clause-exact
returns-in_err-count-clause-exact c =
    let p = err_from_is_err_and c.from_residual.result c.from_residual.ensures.1 in
    rw (p.1, p.2) (held_as c.args.tables.now c.args.c.now c.args.self.now c.hold.new.pending (Err c.in_err-count.field-0.0) c.in_err-count.ensures.exact)

-- a change counts no more rows than a table may have
pub overflow_add-self : goal.overflow_add-self
overflow_add-self c =
    let most : c.in_ok-count.count ≤ MAX_ROWS =
    held_count c.args.tables.now c.args.self.now.pending c.hold.new.pending c.args.c.now c.in_ok-count.count c.in_ok-count.ensures.exact in
    omega arith

pub returns-clause-exact : goal.returns-clause-exact
returns-clause-exact c = held_as c.args.tables.now c.args.c.now c.args.self.now c.hold.new.pending (Ok c.in_ok-count.count) c.in_ok-count.ensures.exact
