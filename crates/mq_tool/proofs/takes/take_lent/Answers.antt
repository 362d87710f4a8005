use Rattle.std.proofs.Common.{ℕ, List, subst}
use Rattle.mq_ir.specs.Scenarios.{compare_step}
use Rattle.mq_tool.specs.Steps.{Takes}
use Rattle.mq_tool.proofs.BlockLemmas.{change_outside}
use Rattle.mq_tool.proofs.takes.take_lent.Goals as goal

pub returns-in-DropTable : goal.returns-in-DropTable
returns-in-DropTable g c = λ files. rw c.in-DropTable.is (c.drop_table.ensures files c.args.line)

pub returns-in-DropView : goal.returns-in-DropView
returns-in-DropView g c = λ files. rw c.in-DropView.is (c.drop_view.ensures files c.args.line)

pub returns-in-Change : goal.returns-in-Change
returns-in-Change g c =
    λ files. rw c.in-Change.is (change_outside c.args.engine.now c.do_change.new.engine c.in-Change.change c.args.out.now.items c.do_change.new.out.items c.do_change.result c.requires.outside
    c.do_change.ensures)

pub returns-in-Show : goal.returns-in-Show
returns-in-Show g c = λ files. rw c.in-Show.is (c.show.ensures files c.args.line)

pub returns-in-Query : goal.returns-in-Query
returns-in-Query g c = λ files. rw c.in-Query.is (c.ask.ensures files c.args.line)

pub returns-in-Begin : goal.returns-in-Begin
returns-in-Begin g c = λ files. rw c.in-Begin.is (c.begin.ensures files)

pub returns-in-CreateScenario : goal.returns-in-CreateScenario
returns-in-CreateScenario g c = λ files. rw c.in-CreateScenario.is (c.create_scenario.ensures files c.args.line)

pub returns-in-DropScenario : goal.returns-in-DropScenario
returns-in-DropScenario g c = λ files. rw c.in-DropScenario.is (c.drop_scenario.ensures files c.args.line)

pub returns-in-Compare : goal.returns-in-Compare
returns-in-Compare g c =
    let old = c.args.engine.now in
    λ files. rw c.in-Compare.is
    (subst (λ (names : List (List ℕ)). Takes (compare_step old c.in-Compare.view names) old c.compare.new.engine c.args.out.now.items c.compare.new.out.items c.compare.result) c.as_slice.ensures
    (c.compare.ensures files c.args.line))

pub returns-in-ExplainCell : goal.returns-in-ExplainCell
returns-in-ExplainCell g c = λ files. rw c.in-ExplainCell.is (c.explain.ensures files c.args.line)
