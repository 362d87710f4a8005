use Rattle.mq_tool.proofs.takes.take_outside.Goals as goal

pub returns-in-CreateTable : goal.returns-in-CreateTable
returns-in-CreateTable g c = λ files. rw c.in-CreateTable.is (c.create_table.ensures files c.args.line)

pub returns-in-CreateView : goal.returns-in-CreateView
returns-in-CreateView g c = λ files. rw c.in-CreateView.is (c.create_view.ensures files c.args.line)

pub returns-in-Under : goal.returns-in-Under
returns-in-Under g c = λ files. rw c.in-Under.is (c.take_in.ensures files c.args.line)
