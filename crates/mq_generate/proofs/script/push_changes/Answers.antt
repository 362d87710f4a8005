use Rattle.std.proofs.Common.{sym, ap, ◌∙◌, ◌++◌, append-nil}
use Rattle.std.specs.List.{concat}
use Rattle.mq_generate.specs.Draws.{state_after}
use Rattle.mq_generate.specs.Script.{change_of, update_line}
use Rattle.mq_generate.specs.declared.script.TheConstants.{DRAWS_A_CHANGE}
use Rattle.mq_generate.proofs.ScriptLemmas.{appended_two, changes_more, each_below-zero, state_after-none, state_after-times}
use Rattle.mq_generate.proofs.script.push_changes.Goals as goal

pub changes-init : goal.changes-init
changes-init c = record {
  text = sym (ap (λ l. c.args.script.now.items ++ concat l) (each_below-zero (change_of c.args.draws.now c.args.size)) ∙ append-nil c.args.script.now.items);
  state = sym (state_after-none DRAWS_A_CHANGE c.args.draws.now);
}

pub changes-preserved : goal.changes-preserved
changes-preserved c = record {
  text = appended_two _ _ _ _ _ _ _ _ c.changes.invariant.text
      (c.in_ok-push_update.ensures.ok ∙ ap (λ n. c.changes.script.items ++ update_line c.changes.draws n) c.from.ensures) c.in_ok-push_show.ensures
      (changes_more c.args.draws.now c.args.size c.changes.index c.changes.draws c.changes.invariant.state);
  state = c.in_ok-push_update.ensures.state ∙ ap (state_after DRAWS_A_CHANGE) c.changes.invariant.state
      ∙ sym (state_after-times DRAWS_A_CHANGE c.changes.index c.args.draws.now);
}
