use Rattle.std.proofs.Common.{◌<◌, ◌+◌, ◌-◌, ◌++◌, Ok, [], ◌∷◌, Bool, true, false, length, replicate, inl, inr, ap, ◌∙◌, arith}
use Rattle.mq_ir.specs.Changes.{deleted_row}
use Rattle.mq_ir.specs.Results.{◌>>=◌}
use Rattle.mq_tables.proofs.LeftLemmas.{taking_back, taking_end, taking_front, taking_gone, taking_left, told_end, told_push}
use Rattle.mq_tables.proofs.SeekLemmas.{row_kept}
use Rattle.mq_tables.proofs.visits.gone_rows.Goals as goal
use Rattle.mq_tables.proofs.visits.gone_rows.Goals.{then-chosen+in_ok-numbered_key+in_ok-push+in_ok-copy+in_ok-push-2, else-chosen}

pub rows-init : goal.rows-init
rows-init c =
    let a = c.requires.there.ascend in
    let e = c.requires.there.end in
    taking_front c.args.schema.now (deleted_row c.args.filter.now) c.args.rows.now c.args.places.from c.in_ok-told.told.items c.new-keys.result c.new-gone.result
    (omega (arith, a, e)) (λ at x h s l. row_kept c.args.filter.now (at + 1) x (c.requires.outside at x h s (inl l)))
    c.in_ok-told.ensures.items c.new-keys.ensures c.new-gone.ensures

pub rows-preserved : goal.rows-preserved
rows-preserved c =
    let f = deleted_row c.args.filter.now in
    let x = c.index-rows-at.result in
    let here : c.rows.at < length c.args.rows.now = (let e = c.requires.there.end in let t = c.rows-test.true in omega (arith, e, t)) in
    let visit = ap (λ r. r >>= (λ chosen. Ok (x, chosen))) c.in_ok-chosen.ensures in
    let before = c.args.places.from in
    let flags = replicate before false ++ c.rows.told.items in
    let after = replicate before false ++ c.push-in-rows.new.self.items in
    elim c.if-chosen.branch [
      | then-chosen+in_ok-numbered_key+in_ok-push+in_ok-copy+in_ok-push-2 w ↦
          rw (w.keys-is, w.gone-is) (taking_gone c.args.schema.now f c.args.rows.now c.rows.at flags after c.rows.keys c.rows.gone x here c.index-rows-at.is
          c.rows.invariant w.push.new.self w.in_ok-numbered_key.field-0 w.push-then-chosen.new.self (visit ∙ ap (λ (b : Bool). Ok (x, b)) w.if-chosen.true)
          (told_push before c.rows.told.items c.push-in-rows.new.self.items c.in_ok-chosen.chosen true c.in_ok-push-3.ensures.items w.if-chosen.true) w.in_ok-numbered_key.ensures w.in_ok-push.ensures.ok
          (w.in_ok-push-2.ensures.ok ∙ ap (λ r. c.rows.gone ++ (c.rows.at, r) ∷ []) w.in_ok-copy.ensures))
      | else-chosen w ↦
          rw (w.keys-is, w.gone-is) (taking_left c.args.schema.now f c.args.rows.now c.rows.at flags after c.rows.keys c.rows.gone x here c.index-rows-at.is
          c.rows.invariant (visit ∙ ap (λ (b : Bool). Ok (x, b)) w.if-chosen.false)
          (told_push before c.rows.told.items c.push-in-rows.new.self.items c.in_ok-chosen.chosen false c.in_ok-push-3.ensures.items w.if-chosen.false))
    ]

pub returns : goal.returns
returns c =
    let f = deleted_row c.args.filter.now in
    let rows = c.args.rows.now in
    let a = c.requires.there.ascend in
    let e = c.requires.there.end in
    let t = c.rows-test.false in
    let m = c.rows.auto.at-end in
    let before = c.args.places.from in
    taking_end c.args.schema.now f rows (length rows) c.of_some.result c.rows.keys c.rows.gone (omega arith)
    (taking_back c.args.schema.now f rows c.rows.at (replicate before false ++ c.rows.told.items) c.of_some.result c.rows.keys c.rows.gone (omega (arith, a, e, m))
    (λ at x h s l. row_kept c.args.filter.now (at + 1) x (c.requires.outside at x h s (inr (omega (arith, t, l)))))
    (told_end before c.rows.told.items c.of_some.result (length rows - c.args.places.to) (length rows - c.rows.at) c.of_some.ensures (omega (arith, a, e, t, m))) c.rows.invariant)
