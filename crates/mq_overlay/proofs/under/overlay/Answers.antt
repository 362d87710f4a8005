use Rattle.std.proofs.lemmas.Result.{err_from_is_err_and}
use Rattle.mq_ir.specs.Scenarios.{numbered_change}
use Rattle.mq_ir.specs.StepLaws.{number_end, number_exit, number_next}
use Rattle.mq_overlay.proofs.under.overlay.Goals as goal

pub returns-in_err-hold : goal.returns-in_err-hold
returns-in_err-hold c =
    let p = err_from_is_err_and c.from_residual.result c.from_residual.ensures.1 in
    rw (p.1, p.2)
    (number_exit numbered_change c.args.tables.now c.args.changes.now c.changes.at c.changes.under c.index-changes-at.result c.in_err-hold.field-0.0 c.changes-test.true c.index-changes-at.is
    c.changes.invariant c.in_err-hold.ensures)

pub changes-preserved : goal.changes-preserved
changes-preserved c =
    number_next numbered_change c.args.tables.now c.args.changes.now c.changes.at c.changes.under c.index-changes-at.result c.hold.new.self c.changes-test.true c.index-changes-at.is
    c.in_ok-hold.ensures c.changes.invariant

pub returns : goal.returns
returns c = number_end numbered_change c.args.tables.now c.args.changes.now c.changes.at c.changes.under c.changes-test.false c.changes.invariant
