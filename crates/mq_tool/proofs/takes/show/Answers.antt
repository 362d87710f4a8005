use Rattle.std.proofs.Common.{ap, sym, ◌∙◌}
use Rattle.mq_ir.specs.declared.statement.Bound.TheVariants as bound
use Rattle.mq_ir.specs.Statement.{show_step}
use Rattle.mq_tool.specs.Statements.{outside}
use Rattle.mq_tool.proofs.StepLemmas.{answer_taken, shown}
use Rattle.mq_tool.proofs.takes.show.Goals as goal

pub returns-in_ok-answer_text-in-Ok : goal.returns-in_ok-answer_text-in-Ok
returns-in_ok-answer_text-in-Ok g c =
    let old = c.args.engine.now in
    λ files line. answer_taken (outside files old line (bound.Show c.args.name.now)) old c.answer.new.self c.in-Ok.answer c.is_fault.result c.args.out.now.items c.answer_text.new.out.items
    (ap (show_step old) (sym c.as_str.ensures) ∙ shown old c.as_str.result.now c.in-Ok.answer c.in-Ok.ensures.exact) c.in-Ok.ensures.same c.in_ok-answer_text-in-Ok.ensures.ok c.is_fault.ensures
