use Rattle.std.proofs.Common.{[], ◌∷◌, Ok, false, refl, sym, ap}
use Rattle.mq_ir.specs.declared.statement.Bound.TheVariants as bound
use Rattle.mq_ir.specs.Lines.{Done}
use Rattle.mq_ir.specs.Statement.{State}
use Rattle.mq_tool.specs.Statements.{outside}
use Rattle.mq_tool.proofs.StepLemmas.{line_taken}
use Rattle.mq_tool.proofs.takes.create_table.Goals as goal

pub returns : goal.returns
returns c =
    let old = c.args.engine.now in
    λ files line. line_taken (outside files old line (bound.CreateTable c.args.def)) old c.create_table.new.self Done false c.args.out.now.items c.done_text.new.out.items
    (ap (λ (s : State). Ok (s, Done ∷ [])) (sym c.in_ok-create_table.ensures.ok)) c.in_ok-done_text.ensures.ok refl
