use Rattle.std.proofs.Common.{sym, ap, ◌∙◌}
use Rattle.std.specs.Option.{option_copied}
use Rattle.mq_group.proofs.ItemLemmas.{first_member, no_member}
use Rattle.mq_group.proofs.members.first_row.Goals as goal

pub returns-in-Some : goal.returns-in-Some
returns-in-Some g c =
    c.row_at.ensures ∙ first_member g.R.RowValues.values c.args.rows.now c.args.group.now c.in-Some.place.now (sym c.first.ensures.value ∙ ap option_copied c.in-Some.is)

pub returns-in-None : goal.returns-in-None
returns-in-None g c = sym (no_member g.R.RowValues.values c.args.rows.now c.args.group.now (sym c.first.ensures.value ∙ ap option_copied c.in-None.is))
