use Rattle.std.proofs.Common.{[], ◌∷◌, Ok, false, refl, sym, ap}
use Rattle.mq_ir.specs.declared.statement.Bound.TheVariants as bound
use Rattle.mq_ir.specs.Lines.{Done}
use Rattle.mq_ir.specs.Statement.{State}
use Rattle.mq_tool.specs.Statements.{inside}
use Rattle.mq_tool.proofs.StepLemmas.{line_taken}
use Rattle.mq_tool.proofs.blocks.roll_back.Goals as goal

pub returns : goal.returns
returns c =
    let old = c.args.engine.now in
    λ files block is. line_taken (inside files old block bound.Rollback) old c.rollback.new.self Done false c.args.out.now.items c.done_text.new.out.items
    (ap (λ (s : State). Ok (s, Done ∷ [])) (sym c.rollback.ensures)) c.in_ok-done_text.ensures.ok refl
