use Rattle.std.proofs.Common.{length, map, pos, sym, ap, subst, ◌∙◌, rules}
use Rattle.mq_values.specs.Answers.{Gives}
use Rattle.mq_values.specs.Arithmetic.{in_range}
use Rattle.mq_ir.specs.Items.{group_value, members_of}
use Rattle.mq_ir.specs.Worth.{a_number}
use Rattle.mq_group.specs.Members.{aggregate_found}
use Rattle.mq_group.proofs.ItemLemmas.{members_counted, members_found}
use Rattle.mq_group.proofs.members.group_value.Goals as goal

pub returns-in-Some : goal.returns-in-Some
returns-in-Some g c =
    let values = g.R.RowValues.values in
    let rows = c.args.rows.now in
    let group = c.args.group.now in
    let agg = c.args.agg in
    let made : Gives c.aggregated.result (aggregate_found values rows agg c.in-Some.e group) = search rules in
    subst (Gives c.aggregated.result)
    (members_found values rows group agg c.in-Some.e ∙ ap (group_value (members_of (map values rows) group) agg) (sym c.in-Some.is))
    made

pub returns-in-None : goal.returns-in-None
returns-in-None g c =
    let values = g.R.RowValues.values in
    let rows = c.args.rows.now in
    let group = c.args.group.now in
    let agg = c.args.agg in
    let made : Gives c.count.result (a_number (in_range (pos (length group)) 0)) = search rules in
    subst (Gives c.count.result)
    (members_counted values rows group agg ∙ ap (group_value (members_of (map values rows) group) agg) (sym c.in-None.is))
    made
