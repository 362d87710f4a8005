use Rattle.std.proofs.Common.{[], sym, ap, ◌∙◌}
use Rattle.std.specs.Option.{option_copied}
use Rattle.std.specs.Prelude.{slice_index_or}
use Rattle.mq_values.specs.declared.value.Value.TheVariants.{Null}
use Rattle.mq_group.proofs.KeyLemmas.{missing_is}
use Rattle.mq_group.proofs.keys.column_value.Goals as goal

pub returns-in-None : goal.returns-in-None
returns-in-None g c =
    sym (missing_is (slice_index_or (g.R.RowValues.values c.args.row.now) c.args.item []) c.args.column Null (sym c.value.ensures ∙ ap option_copied c.in-None.is))
