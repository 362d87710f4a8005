use Rattle.std.proofs.Common.{sym, ap, ◌∙◌, ◌++◌}
use Rattle.std.specs.Prelude.{codes}
use Rattle.mq_generate.specs.Draws.{next_of}
use Rattle.mq_generate.specs.Script.{year_row}
use Rattle.mq_generate.proofs.ScriptLemmas.{appended_more, each_below-zero, rows_more, state_after-more, state_after-zero}
use Rattle.mq_generate.proofs.script.push_insert.Goals as goal

pub years-init : goal.years-init
years-init c = record {
  text = c.in_ok-push_pieces.ensures.ok ∙ ap (λ l. c.args.script.now.items ++ (codes "INSERT INTO SALES VALUES" ++ l)) (sym (each_below-zero (year_row c.args.draws.now c.args.product)));
  state = sym (state_after-zero c.args.draws.now);
}

pub years-preserved : goal.years-preserved
years-preserved c = record {
  text = appended_more _ _ _ _ _ _ c.years.invariant.text c.in_ok-push_row.ensures.ok
      (ap (λ l. codes "INSERT INTO SALES VALUES" ++ l) (rows_more c.args.draws.now c.args.product c.years.index c.years.draws c.years.invariant.state));
  state = c.in_ok-push_row.ensures.state ∙ ap next_of c.years.invariant.state ∙ sym (state_after-more c.years.index c.args.draws.now);
}
