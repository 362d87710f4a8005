use Rattle.std.proofs.Common.{sym, ap, ◌∙◌, ◌++◌, append-nil}
use Rattle.std.specs.List.{concat}
use Rattle.mq_generate.specs.Draws.{state_after}
use Rattle.mq_generate.specs.Script.{product_insert}
use Rattle.mq_generate.specs.declared.script.TheConstants.{YEARS}
use Rattle.mq_generate.proofs.ScriptLemmas.{appended_more, each_below-zero, inserts_more, state_after-none, state_after-times}
use Rattle.mq_generate.proofs.script.push_inserts.Goals as goal

pub products-init : goal.products-init
products-init c = record {
  text = sym (ap (λ l. c.args.script.now.items ++ concat l) (each_below-zero (product_insert c.args.draws.now)) ∙ append-nil c.args.script.now.items);
  state = sym (state_after-none YEARS c.args.draws.now);
}

pub products-preserved : goal.products-preserved
products-preserved c = record {
  text = appended_more _ _ _ _ _ _ c.products.invariant.text c.in_ok-push_insert.ensures.ok
      (inserts_more c.args.draws.now c.products.index c.products.draws c.products.invariant.state);
  state = c.in_ok-push_insert.ensures.state ∙ ap (state_after YEARS) c.products.invariant.state ∙ sym (state_after-times YEARS c.products.index c.args.draws.now);
}
