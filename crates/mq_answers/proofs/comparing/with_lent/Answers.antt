use Rattle.std.proofs.Common.{Option, ap, sym, subst, ◌∙◌}
use Rattle.std.specs.Prelude.{IfSome}
use Rattle.std.specs.Option.{option_copied}
use Rattle.mq_values.specs.Answers.{Gives}
use Rattle.mq_ir.specs.declared.query.PartInput.{PartInput}
use Rattle.mq_ir.specs.Answer.{partition_step}
use Rattle.mq_ir.specs.Unfolding.{model_of}
use Rattle.mq_kept.specs.declared.kept_view.ShownRows.{ShownRows}
use Rattle.mq_kept.specs.Kept.{IsShown}
use Rattle.mq_answers.proofs.ShownLemmas.{shown_gives}
use Rattle.mq_answers.proofs.comparing.with_lent.Goals as goal

pub returns-clause-exact : goal.returns-clause-exact
returns-clause-exact c =
    let model = model_of c.args.m.now in
    let input = c.input.result.now in
    let after = subst (λ (o : Option ShownRows). IfSome o (IsShown model c.show.new.self.input)) (sym c.shown.ensures ∙ ap option_copied c.in-Some.is) c.in_ok-show.ensures.right.shown in
    let shown = subst (λ (p : PartInput). IsShown model p c.in-Some.shown.now) (sym c.input.ensures) after in
    subst (λ (p : PartInput). Gives c.with_shown.result (partition_step model p c.args.gathered)) (c.input.ensures ∙ c.in_ok-show.ensures.same_input)
    (shown_gives model input c.args.gathered c.in-Some.shown.now c.with_shown.result shown (λ cells h. c.with_shown.ensures model cells h))
