use Rattle.std.proofs.Common.{ℕ, List, length, map, sym, ap, ◌∙◌, subst}
use Rattle.mq_ir.specs.Changes.{row_key}
use Rattle.mq_ir.specs.Keys.{Tuple}
use Rattle.mq_tables.specs.InPlace.{rows_gone, rows_left}
use Rattle.mq_tables.specs.KeyOrder.{AreKept, judged}
use Rattle.mq_tables.proofs.KeyedLemmas.{lost_judged, lost_kept}
use Rattle.mq_tables.proofs.keyed_rows.KeyedRows.lose.Goals as goal

pub invariant_of-self-then-lose : goal.invariant_of-self-then-lose
invariant_of-self-then-lose c =
    let rows = c.self.inside.rows.items in
    let gone = c.args.gone.now in
    let key = c.is_kept_by.ensures c.if-is_kept_by.true in
    subst (λ (cs : List ℕ). AreKept cs c.take_away-then-lose.new.items.items c.lose.new.self) c.as_slice.ensures
    (lost_kept c.args.schema.now rows c.self.inside.order c.as_slice.result.now key.0 key.1 (subst (λ (cs : List ℕ). AreKept cs rows c.self.inside.order) (sym c.as_slice.ensures) c.self.invariant)
    gone (c.requires.told ∙ ap length (sym c.self.view_is)) c.args.keys.now (c.requires.keyed ∙ ap (λ (l : List Tuple). map (row_key c.args.schema.now) (rows_gone l gone)) (sym c.self.view_is))
    c.take_away-then-lose.new.items.items c.lose.new.self c.take_away-then-lose.ensures (c.lose.ensures.lost c.if-lose.true))

pub returns-then-lose-clause-exact : goal.returns-then-lose-clause-exact
returns-then-lose-clause-exact c =
    let rows = c.self.inside.rows.items in
    let gone = c.args.gone.now in
    let key = c.is_kept_by.ensures c.if-is_kept_by.true in
    ap (λ (l : List Tuple). judged c.args.schema.now (rows_left l gone)) (sym c.self.view_is)
    ∙ lost_judged c.args.schema.now rows c.self.inside.order c.as_slice.result.now key.0 key.1 (subst (λ (cs : List ℕ). AreKept cs rows c.self.inside.order) (sym c.as_slice.ensures) c.self.invariant)
    gone (c.requires.told ∙ ap length (sym c.self.view_is)) c.args.keys.now (c.requires.keyed ∙ ap (λ (l : List Tuple). map (row_key c.args.schema.now) (rows_gone l gone)) (sym c.self.view_is))
    c.take_away-then-lose.new.items.items c.lose.new.self c.take_away-then-lose.ensures (c.lose.ensures.lost c.if-lose.true)
