use Rattle.std.proofs.Common.{ap, ◌∙◌}
use Rattle.mq_tables.specs.Groups.{groups_of}
use Rattle.mq_tables.proofs.SeekLemmas.{first_like, none_first}
use Rattle.mq_tables.proofs.keyed_rows.first_has_groups_of.Goals as goal

pub returns-in-Some : goal.returns-in-Some
returns-in-Some c = λ same.
    first_like c.args.schema.now c.args.rows.now c.args.key.now c.in-Some.row.now c.in-Some.ensures.item.1 (c.has_groups_of.ensures same ∙ ap groups_of (c.as_slice.ensures ∙ c.key.ensures))

pub returns-in-None : goal.returns-in-None
returns-in-None c = λ _. none_first c.args.schema.now c.args.rows.now c.args.key.now c.in-None.ensures.item.3
