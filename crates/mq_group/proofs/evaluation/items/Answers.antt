use Rattle.std.proofs.Common.{ap, subst, ◌∙◌, rules}
use Rattle.mq_values.specs.Answers.{Gives}
use Rattle.mq_ir.specs.Results.{each}
use Rattle.mq_group.specs.Members.{group_found, row_found}
use Rattle.mq_group.proofs.ItemLemmas.{group_items_are, row_items_are}
use Rattle.mq_group.proofs.evaluation.items.Goals as goal

pub returns-in-None : goal.returns-in-None
returns-in-None g c =
    let values = g.R.RowValues.values in
    let rows = c.args.rows.now in
    subst (Gives c.row_items.result)
    (ap (λ es. each (row_found values es) rows) c.as_slice.ensures ∙ row_items_are values c.args.q.now rows c.in-None.is)
    c.row_items.ensures

pub returns-in-Some : goal.returns-in-Some
returns-in-Some g c =
    let values = g.R.RowValues.values in
    let q = c.args.q.now in
    let rows = c.args.rows.now in
    let groups = c.args.groups.now in
    let cols = c.in-Some.cols in
    let made : Gives c.group_items.result (each (group_found values cols rows q.items) groups) = search rules in
    subst (Gives c.group_items.result) (group_items_are values q cols rows groups c.in-Some.is c.requires) made
