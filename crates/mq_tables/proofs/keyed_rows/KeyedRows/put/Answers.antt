use Rattle.std.proofs.Common.{ℕ, List, sym, ap, ◌∙◌, subst}
use Rattle.mq_ir.specs.Keys.{Tuple}
use Rattle.mq_tables.specs.Exchanging.{ComeForOthers, ComesFor}
use Rattle.mq_tables.specs.InPlace.{put_at}
use Rattle.mq_tables.specs.KeyOrder.{AreKept, judged}
use Rattle.mq_tables.proofs.KeyedLemmas.{come_judged, come_kept}
use Rattle.mq_tables.proofs.keyed_rows.KeyedRows.put.Goals as goal

pub invariant_of-self-then-done : goal.invariant_of-self-then-done
invariant_of-self-then-done c =
    let schema = c.args.schema.now in
    let rows = c.self.inside.rows.items in
    let order = c.self.inside.order in
    let after = c.exchange_keys.new.order in
    let key = c.in-Ok.ensures.known c.if-done.true in
    let done = subst (λ (puts : List (ℕ × Tuple)). ComeForOthers schema c.args.were.now puts order after) c.as_slice-2.ensures (c.in-Ok.ensures.exchanged c.if-done.true) in
    subst (λ (cs : List ℕ). AreKept cs c.put_rows.new.rows.items after) c.as_slice.ensures
    (come_kept schema rows order c.as_slice.result.now key.0 key.1 (subst (λ (cs : List ℕ). AreKept cs rows order) (sym c.as_slice.ensures) c.self.invariant)
    c.args.puts c.args.were.now (subst (λ (l : List Tuple). ComesFor l c.args.puts c.args.were.now) (sym c.self.view_is) c.requires) after done c.put_rows.new.rows.items c.put_rows.ensures)

pub returns-then-done-clause-exact : goal.returns-then-done-clause-exact
returns-then-done-clause-exact c =
    let schema = c.args.schema.now in
    let rows = c.self.inside.rows.items in
    let order = c.self.inside.order in
    let after = c.exchange_keys.new.order in
    let key = c.in-Ok.ensures.known c.if-done.true in
    let done = subst (λ (puts : List (ℕ × Tuple)). ComeForOthers schema c.args.were.now puts order after) c.as_slice-2.ensures (c.in-Ok.ensures.exchanged c.if-done.true) in
    ap (λ (l : List Tuple). judged schema (put_at c.args.puts l)) (sym c.self.view_is)
    ∙ come_judged schema rows order c.as_slice.result.now key.0 key.1 (subst (λ (cs : List ℕ). AreKept cs rows order) (sym c.as_slice.ensures) c.self.invariant)
    c.args.puts c.args.were.now (subst (λ (l : List Tuple). ComesFor l c.args.puts c.args.were.now) (sym c.self.view_is) c.requires) after done c.put_rows.new.rows.items c.put_rows.ensures
