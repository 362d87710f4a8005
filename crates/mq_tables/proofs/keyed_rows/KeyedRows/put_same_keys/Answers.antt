use Rattle.std.proofs.Common.{ℕ, List, Ok, map, sym, ap, ◌∙◌, subst}
use Rattle.mq_ir.specs.Changes.{row_key}
use Rattle.mq_ir.specs.Statement.{unless_refused}
use Rattle.mq_tables.specs.InPlace.{put_at}
use Rattle.mq_tables.specs.KeyOrder.{AreKept}
use Rattle.mq_tables.proofs.KeyedLemmas.{same_kept}
use Rattle.mq_tables.proofs.keyed_rows.KeyedRows.put_same_keys.Goals as goal

pub returns-clause-exact : goal.returns-clause-exact
returns-clause-exact c =
    let rows = c.self.inside.rows.items in
    let after = put_at c.args.puts c.args.self.now in
    let key = c.is_key_of.ensures c.if-not-is_key_of.false in
    ap (λ o. unless_refused o (Ok after))
    (same_kept c.args.schema.now after rows c.self.inside.order c.as_slice.result.now key.0 key.1
    (subst (λ (cs : List ℕ). AreKept cs rows c.self.inside.order) (sym c.as_slice.ensures) c.self.invariant) (c.requires ∙ ap (map (row_key c.args.schema.now)) (sym c.self.view_is)))
    ∙ ap Ok (ap (put_at c.args.puts) (sym c.self.view_is) ∙ sym c.put_rows.ensures)
