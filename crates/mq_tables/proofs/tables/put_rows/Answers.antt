use Rattle.std.proofs.Common.{position, slice_set, sym, ap, ◌∙◌}
use Rattle.mq_ir.specs.Tables.{Table, is_name}
use Rattle.mq_tables.proofs.HeldLemmas.{rows_not_set, rows_put}
use Rattle.mq_tables.proofs.tables.put_rows.Goals as goal

pub returns-in-Some : goal.returns-in-Some
returns-in-Some c =
    let items = c.args.tables.now.items in
    ap (slice_set items c.in-Some.place) c.set_rows.ensures
    ∙ rows_put c.args.name.now c.args.rows items c.in-Some.place c.index_mut.result.now c.requires
    (ap (position (λ (t : Table). is_name c.args.name.now t.name)) (sym c.deref.ensures.value) ∙ sym c.in-Some.ensures) c.index_mut.ensures.value

pub returns-in-None : goal.returns-in-None
returns-in-None c =
    sym (rows_not_set c.args.name.now c.args.rows c.args.tables.now.items (ap (position (λ (t : Table). is_name c.args.name.now t.name)) (sym c.deref.ensures.value) ∙ sym c.in-None.ensures))
