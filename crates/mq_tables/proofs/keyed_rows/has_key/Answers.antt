use Rattle.std.proofs.Common.{is_eq, sym, ap, ◌∙◌}
use Rattle.mq_values.specs.Order.{cmp_key}
use Rattle.mq_tables.proofs.SeekLemmas.{key_there}
use Rattle.mq_tables.proofs.keyed_rows.has_key.Goals as goal

pub returns-in-Ok : goal.returns-in-Ok
returns-in-Ok c = λ same.
    key_there c.args.schema.now c.args.rows.now c.args.key.now c.args.place c.in-Some.row.now c.in-Ok.found c.in-Some.ensures.lookup.3.0 c.in-Some.ensures.lookup.1 c.in-Ok.ensures
    (sym (c.is_eq.ensures ∙ ap is_eq (c.cmp.ensures ∙ ap (cmp_key c.in-Ok.found) c.key.ensures)) ∙ same)
