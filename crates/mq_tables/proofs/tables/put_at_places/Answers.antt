use Rattle.std.proofs.Common.{[], position, slice_set, sym, ap, ◌∙◌}
use Rattle.std.specs.Option.{option_map_or}
use Rattle.mq_ir.specs.Statement.{with_rows}
use Rattle.mq_ir.specs.Tables.{Table, rows_of}
use Rattle.mq_tables.specs.InPlace.{put_at}
use Rattle.mq_tables.proofs.AppliedLemmas.{at_position, has_name}
use Rattle.mq_tables.proofs.HeldLemmas.{rows_not_set, rows_put}
use Rattle.mq_tables.proofs.tables.put_at_places.Goals as goal

pub put_back-requires : goal.put_back-requires
put_back-requires c =
    let items = c.args.tables.now.items in
    let name = c.args.name.now in
    let t = c.index_mut.result.now in
    c.requires.keys t (at_position name items c.in-Some.place t (ap (position (has_name name)) (sym c.deref.ensures.value) ∙ sym c.in-Some.ensures) c.index_mut.ensures.value)

pub returns-in-Some : goal.returns-in-Some
returns-in-Some c =
    let items = c.args.tables.now.items in
    let name = c.args.name.now in
    let t = c.index_mut.result.now in
    let p = ap (position (has_name name)) (sym c.deref.ensures.value) ∙ sym c.in-Some.ensures in
    let there = at_position name items c.in-Some.place t p c.index_mut.ensures.value in
    ap (slice_set items c.in-Some.place) c.put_back.ensures
    ∙ rows_put name (put_at c.args.puts t.rows) items c.in-Some.place t c.requires.own p c.index_mut.ensures.value
    ∙ ap (λ o. with_rows items name (put_at c.args.puts (option_map_or (λ (u : Table). u.rows) o []))) (sym there)

pub returns-in-None : goal.returns-in-None
returns-in-None c =
    let items = c.args.tables.now.items in
    let name = c.args.name.now in
    sym (rows_not_set name (put_at c.args.puts (rows_of items name)) items (ap (position (has_name name)) (sym c.deref.ensures.value) ∙ sym c.in-None.ensures))
