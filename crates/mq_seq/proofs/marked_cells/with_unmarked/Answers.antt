use Rattle.std.proofs.Common.{◌≡◌, arith, Some, None, length, ap, sym, ◌∙◌}
use Rattle.std.specs.List.{insert}
use Rattle.mq_dim_index.specs.Places.{place_of, with_key}
use Rattle.mq_seq.specs.Marks.{marked_keys}
use Rattle.mq_seq.proofs.MarkLemmas.{unmarked}
use Rattle.mq_seq.proofs.PlaceLemmas.{length_with, nowhere, place_within, put_where_found}
use Rattle.mq_seq.proofs.marked_cells.with_unmarked.Goals as goal

pub returns-then-len-clause-one_each : goal.returns-then-len-clause-one_each
returns-then-len-clause-one_each c = λ keys t now h.
    let more = length_with c.args.key.now keys t in
    let long = ap length now in
    let len = c.len.ensures in
    let all = c.len-2.ensures in
    let test = c.if-len.true in
    absurd (omega (arith, more, long, len, all, test, h))

pub returns-then-len-clause-same : goal.returns-then-len-clause-same
returns-then-len-clause-same c = λ keys t now h.
    let more = length_with c.args.key.now keys t in
    let long = ap length now in
    let len = c.len.ensures in
    let all = c.len-2.ensures in
    let test = c.if-len.true in
    absurd (omega (arith, more, long, len, all, test, h))

pub unreachable-requires : goal.unreachable-requires
unreachable-requires c =
    let missed : place_of c.args.index.now c.args.key.now ≡ None = ap (place_of c.args.index.now) (sym c.as_slice.ensures) ∙ sym c.in_default.ensures in
    let none = nowhere c.args.key.now c.args.index.now missed in
    let there = c.requires.there in
    absurd (cc)

pub returns-clause-same : goal.returns-clause-same
returns-clause-same c = λ keys t now h.
    let key = c.args.key.now in
    let at = c.in-Some.at in
    let found : place_of (with_key keys key) key ≡ Some at = (λ i. place_of (sym now i) (sym c.as_slice.ensures i)) ∙ sym c.in-Some.ensures in
    let put : insert keys at key ≡ c.args.index.now = put_where_found keys key at t found ∙ sym now in
    (λ i. marked_keys (sym put i) (c.in_ok-insert.ensures.items i)) ∙ unmarked key keys c.args.marks.items at h (place_within key keys at t found)
