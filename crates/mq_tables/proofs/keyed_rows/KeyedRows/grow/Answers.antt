use Rattle.std.proofs.Common.{ℕ, List, ◌++◌, sym, ap, ◌∙◌, subst}
use Rattle.mq_ir.specs.Keys.{Tuple}
use Rattle.mq_tables.specs.KeyOrder.{AreKept, judged}
use Rattle.mq_tables.proofs.KeyedLemmas.{put_judged, put_kept, put_refused}
use Rattle.mq_tables.proofs.keyed_rows.KeyedRows.grow.Goals as goal

pub invariant_of-self-in-Ok : goal.invariant_of-self-in-Ok
invariant_of-self-in-Ok c =
    let rows = c.self.inside.rows.items in
    let key = c.is_key_of.ensures c.if-not-is_key_of.false in
    subst (λ (cs : List ℕ). AreKept cs c.put_behind.new.rows.items c.put_behind.new.order) c.as_slice.ensures
    (put_kept c.args.schema.now rows c.self.inside.order c.as_slice.result.now key.0 key.1 (subst (λ (cs : List ℕ). AreKept cs rows c.self.inside.order) (sym c.as_slice.ensures) c.self.invariant)
    c.args.new c.put_behind.new.rows.items c.put_behind.new.order c.in-Ok.ensures.0 c.in-Ok.ensures.1)

pub returns-in-Ok-clause-exact : goal.returns-in-Ok-clause-exact
returns-in-Ok-clause-exact c =
    let rows = c.self.inside.rows.items in
    let key = c.is_key_of.ensures c.if-not-is_key_of.false in
    ap (λ (l : List Tuple). judged c.args.schema.now (l ++ c.args.new)) (sym c.self.view_is)
    ∙ put_judged c.args.schema.now rows c.self.inside.order c.as_slice.result.now key.0 key.1 (subst (λ (cs : List ℕ). AreKept cs rows c.self.inside.order) (sym c.as_slice.ensures) c.self.invariant)
    c.args.new c.put_behind.new.rows.items c.put_behind.new.order c.in-Ok.ensures.0 c.in-Ok.ensures.1

pub returns-in-Err-Cause-clause-exact : goal.returns-in-Err-Cause-clause-exact
returns-in-Err-Cause-clause-exact c =
    let rows = c.self.inside.rows.items in
    let key = c.is_key_of.ensures c.if-not-is_key_of.false in
    let put = rw c.in-Err-Cause.field-0-is at c.in-Err-Cause.ensures in
    ap (λ (l : List Tuple). judged c.args.schema.now (l ++ c.args.new)) (sym c.self.view_is)
    ∙ put_refused c.args.schema.now rows c.self.inside.order c.as_slice.result.now key.0 key.1 (subst (λ (cs : List ℕ). AreKept cs rows c.self.inside.order) (sym c.as_slice.ensures) c.self.invariant)
    c.args.new c.in-Err-Cause.refused put.1.0
