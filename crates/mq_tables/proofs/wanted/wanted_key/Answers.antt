use Rattle.std.proofs.Common.{ℕ, ◌+◌, ◌≤◌, List, get_or, length, take, refl, sym, ap, ◌∙◌, subst, arith}
use Rattle.std.proofs.lemmas.List.{take_all}
use Rattle.mq_values.specs.declared.value.Value.{Value}
use Rattle.mq_tables.specs.Wanted.{AreWanted}
use Rattle.mq_tables.proofs.WantedLemmas.{wanted_next, wants_key}
use Rattle.mq_tables.proofs.wanted.wanted_key.Goals as goal

pub columns-preserved : goal.columns-preserved
columns-preserved c =
    let items = c.as_slice-column-items.result.now in
    let same = c.as_slice-column-items.ensures in
    let i = c.columns.column-index in
    subst (λ (l : List ℕ). AreWanted c.args.filter.now (take (i + 1) l) c.push.new.self) same
    (wanted_next c.args.filter.now items i (get_or items i 0) c.columns.values c.push.new.self c.in-Some.v.now c.in_ok-copy-in-Some.field-0 c.columns-test.true refl
    c.in_ok-copy-in-Some.ensures c.in_ok-push-in-Some.ensures.ok c.in-Some.ensures
    (subst (λ (l : List ℕ). AreWanted c.args.filter.now (take i l) c.columns.values) (sym same) c.columns.invariant))

pub returns : goal.returns
returns c =
    let key = c.args.schema.now.key in
    let same = c.as_slice-column-items.ensures in
    let many = ap length same in
    let end = c.columns-test.false in
    let whole : length key ≤ c.columns.column-index = omega (arith, many, end) in
    wants_key c.args.filter.now c.args.schema.now c.new-2.result
    (subst (λ (values : List Value). AreWanted c.args.filter.now key values) (sym (c.new-2.ensures ∙ c.in_ok-new.ensures))
    (subst (λ (l : List ℕ). AreWanted c.args.filter.now l c.columns.values) (take_all c.columns.column-index key whole) c.columns.invariant))
