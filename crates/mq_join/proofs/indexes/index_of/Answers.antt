use Rattle.std.proofs.Common.{◌≡◌, ◌∙◌, ◌+◌, ◌-◌, ◌<◌, ap, arith, length, refl, set}
use Rattle.std.specs.Prelude.{slice_index_or}
use Rattle.mq_values.specs.declared.value.Value.TheVariants.{Null}
use Rattle.mq_ir.specs.Keys.{Tuple}
use Rattle.mq_join.proofs.IndexLemmas.{chained_more}
use Rattle.mq_join.proofs.indexes.index_of.Goals as goal

pub rows-preserved : goal.rows-preserved
rows-preserved c =
    let rows = c.args.rows.now in
    let column = c.args.lookup.own in
    let i = c.rows.place in
    let old = c.in_ok-next-2.field-0 in
    let next = c.rows.next.items in
    let again : i ≡ (i - 1) + 1 = omega arith in
    let within : i - 1 < length rows = omega arith in
    record {
      within = omega arith;
      chained =
          chained_more rows column (i - 1) i c.rows.heads c.insert.new.self next (set next (i - 1) old) c.new.result old again within
          (c.new.ensures ∙ ap (λ (row : Tuple). slice_index_or row column Null) c.row.ensures)
          c.in_ok-next-2.ensures.updates.0 c.in_ok-next-2.ensures.old refl c.rows.invariant.chained;
    }
