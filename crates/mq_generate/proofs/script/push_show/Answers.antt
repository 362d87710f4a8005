use Rattle.std.proofs.Common.{sym, ap, ◌∙◌, ◌++◌, append-nil}
use Rattle.mq_generate.proofs.ScriptLemmas.{show_due, show_not_due}
use Rattle.mq_generate.proofs.script.push_show.Goals as goal

pub returns-then-changes-eq0 : goal.returns-then-changes-eq0
returns-then-changes-eq0 c = rw (show_due c.args.changes c.if-changes-eq0.true) c.push_statement.ensures

pub returns-else-changes-eq0 : goal.returns-else-changes-eq0
returns-else-changes-eq0 c =
    sym (ap (λ l. c.args.script.now.items ++ l) (show_not_due c.args.changes c.if-changes-eq0.false) ∙ append-nil c.args.script.now.items)
