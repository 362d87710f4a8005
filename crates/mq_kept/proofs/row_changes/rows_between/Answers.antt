use Rattle.std.proofs.Common.{◌<◌, length, rules}
use Rattle.mq_kept.proofs.RowChangeLemmas.{nothing_changed, step_further}
use Rattle.mq_kept.proofs.row_changes.rows_between.Goals as goal

pub rows-init : goal.rows-init
rows-init c = nothing_changed c.args.old.now c.args.new.now _ c.new.ensures c.new-2.ensures

pub rows-preserved : goal.rows-preserved
rows-preserved c =
    let old = c.args.old.now in
    let new = c.args.new.now in
    let within : c.rows.at < length old = search rules in
    let room : c.rows.beside < length new = search rules in
    step_further old new c.rows.at c.rows.beside c.index-old-at.result c.index-new-beside.result within room c.index-old-at.is c.index-new-beside.is
    c.rows.change c.rows.invariant c.next_step-step.result c.add_step.new.change c.passed_by-passed.result c.next_step-step.ensures
    c.in_ok-add_step.ensures c.passed_by-passed.ensures.passed
