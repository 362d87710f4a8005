use Rattle.std.proofs.Common.{[], ◌∷◌, Ok, false, refl, sym, ap}
use Rattle.mq_ir.specs.declared.statement.Bound.TheVariants as bound
use Rattle.mq_ir.specs.Lines.{Done}
use Rattle.mq_ir.specs.Statement.{State}
use Rattle.mq_tool.specs.Statements.{outside}
use Rattle.mq_tool.proofs.StepLemmas.{line_taken}
use Rattle.mq_tool.proofs.blocks.begin.Goals as goal

pub returns : goal.returns
returns c =
    let old = c.args.engine.now in
    λ files. line_taken (outside files old c.args.line bound.Begin) old c.begin.new.self Done false c.args.out.now.items c.done_text.new.out.items
    (ap (λ (s : State). Ok (s, Done ∷ [])) (sym c.begin.ensures)) c.in_ok-done_text.ensures.ok refl
