use Rattle.std.proofs.Common.{length, ap, sym, ◌∙◌, arith}
use Rattle.mq_ir.specs.declared.statement.Schema.{Schema}
use Rattle.mq_tables.specs.Staging.{stays}
use Rattle.mq_tables.specs.Touching.{made}
use Rattle.mq_tables.proofs.NoteLemmas.{as_many}
use Rattle.mq_tables.proofs.PendingLemmas.{staged_is, staged_short}
use Rattle.mq_tables.proofs.staged.Staged.of_change.Goals as goal

pub change_noting-requires-clause-known : goal.change_noting-requires-clause-known
change_noting-requires-clause-known c =
    let places = ap length c.in_ok-places.ensures ∙ as_many c.rows.result.now in
    let lent = ap length c.rows.ensures in
    let copied = ap length (c.in_ok-rows.ensures ∙ c.keyed_rows.ensures) in
    omega (arith, places, lent, copied)

pub invariant_of-result : goal.invariant_of-result
invariant_of-result c =
    let t = c.args.table.now in
    staged_short t c.args.c.now c.in_ok-rows.rows (c.in_ok-rows.ensures ∙ c.keyed_rows.ensures) c.change_noting.new.rows c.in_ok-places.places.items c.change_noting.new.places.items
    c.in_ok-touched.touched (ap (λ (z : Schema). made z c.in_ok-rows.rows c.args.c.now) (sym c.schema.ensures) ∙ c.in_ok-touched.ensures.exact) (c.in_ok-places.ensures ∙ ap stays c.rows.ensures)
    c.in_ok-touched.ensures.noted

pub returns : goal.returns
returns c =
    let t = c.args.table.now in
    staged_is t c.args.c.now c.in_ok-rows.rows (c.in_ok-rows.ensures ∙ c.keyed_rows.ensures) c.change_noting.new.rows c.in_ok-places.places.items c.change_noting.new.places.items
    c.in_ok-touched.touched c.in_ok-copy_name.field-0 (length c.rows-4.result.now) c.count.result
    (ap (λ (z : Schema). made z c.in_ok-rows.rows c.args.c.now) (sym c.schema.ensures) ∙ c.in_ok-touched.ensures.exact) (c.in_ok-places.ensures ∙ ap stays c.rows.ensures)
    c.in_ok-touched.ensures.noted c.in_ok-copy_name.ensures (ap length c.rows-4.ensures) c.count.ensures
