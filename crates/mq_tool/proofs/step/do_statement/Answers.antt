use Rattle.mq_lexer.specs.Statements.{statement}
use Rattle.mq_tool.proofs.StepLemmas.{does, does_refuse}
use Rattle.mq_tool.proofs.step.do_statement.Goals as goal

pub returns-in-Ok-clause-done : goal.returns-in-Ok-clause-done
returns-in-Ok-clause-done g c =
    does (statement c.args.statement.now) (g.F.Shelf.files c.args.files.now) c.args.engine.now c.try_statement.new.engine c.args.out.now.items c.try_statement.new.out.items c.in-Ok.flaw
    c.in-Ok.ensures.done

pub returns-in-Ok-refusal_text-clause-done : goal.returns-in-Ok-refusal_text-clause-done
returns-in-Ok-refusal_text-clause-done g c =
    does_refuse (statement c.args.statement.now) (g.F.Shelf.files c.args.files.now) c.args.engine.now c.try_statement.new.engine c.settle.new.engine c.args.out.now.items
    c.try_statement.new.out.items c.refusal_text.new.out.items c.in-Err-Refused.refused (rw c.in-Err-Refused.field-0-is at c.in-Err-Refused.ensures.done) c.settle.ensures
    c.in-Ok-refusal_text.ensures.ok
