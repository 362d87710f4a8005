use Rattle.mq_generate.proofs.ScriptLemmas.{whole_script}
use Rattle.mq_generate.proofs.script.generated.Goals as goal

pub returns : goal.returns
returns c =
    whole_script c.args.number c.args.size c.new-draws.result c.push_inserts.new.draws _ _ _ _ _ c.new-draws.ensures c.in_ok-push_inserts.ensures.state
    c.new-script.ensures.items c.in_ok-push_statement.ensures c.in_ok-push_inserts.ensures.ok c.in_ok-push_statement-2.ensures c.in_ok-push_changes.ensures
