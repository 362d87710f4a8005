use Rattle.std.proofs.Common.{◌<◌, ◌+◌, ◌++◌, [], ◌∷◌, Ok, inl, inr, length, ap, ◌∙◌, arith}
use Rattle.std.proofs.lemmas.Result.{err_from_is_err_and}
use Rattle.mq_ir.specs.Changes.{updated_row}
use Rattle.mq_tables.specs.Visits.{row_replaced, rows_found}
use Rattle.mq_tables.proofs.PutLemmas.{replacing_back, replacing_end, replacing_fault, replacing_front, replacing_none, replacing_some}
use Rattle.mq_tables.proofs.SeekLemmas.{row_left}
use Rattle.mq_tables.proofs.Walks.{exit}
use Rattle.mq_tables.proofs.visits.replaced_rows.Goals as goal
use Rattle.mq_tables.proofs.visits.replaced_rows.Goals.{in-Some+in_ok-push-in-Some+in_ok-copy-in-Some+in_ok-push-in-Some-2, in-None}

pub rows-init : goal.rows-init
rows-init c =
    let a = c.requires.there.ascend in
    let e = c.requires.there.end in
    replacing_front (updated_row c.args.schema.now c.args.sets.now c.args.filter.now) c.args.rows.now c.args.places.from c.new-puts.result c.new-were.result (omega (arith, a, e))
    (λ at x h s l. row_left c.args.schema.now c.args.sets.now c.args.filter.now (at + 1) x (c.requires.outside at x h s (inl l))) c.new-puts.ensures c.new-were.ensures

pub rows-preserved : goal.rows-preserved
rows-preserved c =
    let f = updated_row c.args.schema.now c.args.sets.now c.args.filter.now in
    let x = c.index-rows-at.result in
    let here : c.rows.at < length c.args.rows.now = (let e = c.requires.there.end in let t = c.rows-test.true in omega (arith, e, t)) in
    elim c.match-branch-2.branch [
      | in-Some+in_ok-push-in-Some+in_ok-copy-in-Some+in_ok-push-in-Some-2 w ↦
          rw (w.puts-is, w.were-is) (replacing_some f c.args.rows.now c.rows.at c.rows.puts c.rows.were x here c.index-rows-at.is c.rows.invariant w.push.new.self w.push-in-Some.new.self
          w.in-Some.new (c.in_ok-new.ensures ∙ ap Ok w.in-Some.is) w.in_ok-push-in-Some.ensures.ok
          (w.in_ok-push-in-Some-2.ensures.ok ∙ ap (λ r. c.rows.were ++ (c.rows.at, r) ∷ []) w.in_ok-copy-in-Some.ensures))
      | in-None w ↦
          rw (w.puts-is, w.were-is) (replacing_none f c.args.rows.now c.rows.at c.rows.puts c.rows.were x here c.index-rows-at.is c.rows.invariant (c.in_ok-new.ensures ∙ ap Ok w.in-None.is))
    ]

pub returns-in_err-new : goal.returns-in_err-new
returns-in_err-new c =
    let f = updated_row c.args.schema.now c.args.sets.now c.args.filter.now in
    let x = c.index-rows-at.result in
    let here : c.rows.at < length c.args.rows.now = (let e = c.requires.there.end in let t = c.rows-test.true in omega (arith, e, t)) in
    let p = err_from_is_err_and c.from_residual.result c.from_residual.ensures.1 in
    rw (p.1, p.2)
    (exit (row_replaced c.args.schema.now c.args.sets.now c.args.filter.now (c.rows.at + 1, x)) (rows_found c.args.schema.now c.args.sets.now c.args.filter.now c.args.rows.now)
    c.in_err-new.field-0.0 c.in_err-new.ensures
    (λ fault h. replacing_fault f c.args.rows.now c.rows.at c.rows.puts c.rows.were x here c.index-rows-at.is c.rows.invariant fault h))

pub returns : goal.returns
returns c =
    let f = updated_row c.args.schema.now c.args.sets.now c.args.filter.now in
    let rows = c.args.rows.now in
    let a = c.requires.there.ascend in
    let e = c.requires.there.end in
    let t = c.rows-test.false in
    let m = c.rows.auto.at-end in
    replacing_end f rows (length rows) c.rows.puts c.rows.were (omega arith)
    (replacing_back f rows c.rows.at c.rows.puts c.rows.were (omega (arith, a, e, m))
    (λ at x h s l. row_left c.args.schema.now c.args.sets.now c.args.filter.now (at + 1) x (c.requires.outside at x h s (inr (omega (arith, t, l))))) c.rows.invariant)
