use Rattle.std.proofs.Common.{sym, ◌∙◌}
use Rattle.mq_ir.specs.Unfolding.{model_of}
use Rattle.mq_answers.proofs.ExplainLemmas.{found_done, steps_told}
use Rattle.mq_answers.proofs.explaining.explained_in.Goals as goal

pub returns-in-Done : goal.returns-in-Done
returns-in-Done c =
    let model = model_of c.args.m.now in
    let p = c.args.p.now in
    steps_told model p c.in-Done.shape c.args.cell.now (found_done model p c.in-Done.shape (sym c.in-Done.is ∙ c.in_ok-shape.ensures.verdict))
    c.in_ok-steps-in-Done.steps (sym c.is_cell.ensures ∙ c.if-not-is_cell.false) c.in_ok-steps-in-Done.ensures
