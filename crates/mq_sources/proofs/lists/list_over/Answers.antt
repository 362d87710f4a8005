use Rattle.std.proofs.Common.{◌≡◌, Err, sym, ap, ◌∙◌}
use Rattle.mq_ir.specs.Answer.{plain_fault, rule_of_list}
use Rattle.mq_ir.specs.Items.{items_over}
use Rattle.mq_ir.specs.Results.{marked}
use Rattle.mq_sources.proofs.FaultLemmas.{of_no_rule, of_rule}
use Rattle.mq_sources.proofs.lists.list_over.Goals as goal

pub returns-in-Ok : goal.returns-in-Ok
returns-in-Ok g c =
    of_no_rule (items_over (g.T.TableSet.tables c.args.tables.now) c.args.list.now.from c.args.list.now.items) (rule_of_list c.args.part.now c.args.number) c.in-Ok.rows c.in-Ok.ensures

pub returns-in_ok-rule-in-Err-Cause : goal.returns-in_ok-rule-in-Err-Cause
returns-in_ok-rule-in-Err-Cause g c =
    let found = items_over (g.T.TableSet.tables c.args.tables.now) c.args.list.now.from c.args.list.now.items in
    let fault = c.in-Err-Cause.fault in
    let faulted : marked (plain_fault 0) found ≡ Err fault = rw c.in-Err-Cause.field-0-is at c.in-Err-Cause.ensures in
    of_rule found (rule_of_list c.args.part.now c.args.number) fault faulted
    ∙ ap (λ rule. Err (plain_fault rule fault.kind)) (sym c.in_ok-rule-in-Err-Cause.ensures)
    ∙ ap Err (sym c.plain_fault.ensures)
