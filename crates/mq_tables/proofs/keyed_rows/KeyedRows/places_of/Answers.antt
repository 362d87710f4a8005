use Rattle.std.proofs.Common.{◌≡◌, length, ap, ◌∙◌, rules, vec_len}
use Rattle.mq_tables.proofs.SeekLemmas.{all_told}
use Rattle.mq_tables.proofs.keyed_rows.KeyedRows.places_of.Goals as goal

pub returns-in-None : goal.returns-in-None
returns-in-None c =
    let whole : vec_len c.self.inside.rows ≡ length c.self.inside.rows.items = search rules in
    all_told c.args.schema.now c.args.self.now c.args.key.now c.first.result c.len.result c.first.ensures (c.len.ensures ∙ whole ∙ ap length c.self.view_is)
