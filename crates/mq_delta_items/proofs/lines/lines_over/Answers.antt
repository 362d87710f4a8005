use Rattle.std.proofs.Common.{◌≡◌, Bool, subst}
use Rattle.mq_delta_items.specs.Lines.{line_of}
use Rattle.mq_delta_items.specs.Lining.{if_put, with_line}
use Rattle.mq_delta_items.proofs.LineLemmas.{lined_exit, lined_next}
use Rattle.mq_delta_items.proofs.lines.lines_over.Goals as goal

pub returns-then-not-branch : goal.returns-then-not-branch
returns-then-not-branch c =
    let f = line_of c.args.from.now c.args.part.now in
    let row = c.row-item.result in
    lined_exit f c.args.rows.now c.rows.row-index c.rows.lines c.put_line.new.lines row c.rows-test.true c.row-item.is
    (subst (λ (b : Bool). if_put b c.put_line.new.lines ≡ with_line (f row) c.rows.lines) c.if-not-branch.true c.in_ok-put_line.ensures)
    c.rows.invariant

pub rows-preserved : goal.rows-preserved
rows-preserved c =
    let f = line_of c.args.from.now c.args.part.now in
    let row = c.row-item.result in
    lined_next f c.args.rows.now c.rows.row-index c.rows.lines c.put_line.new.lines row c.rows-test.true c.row-item.is
    (subst (λ (b : Bool). if_put b c.put_line.new.lines ≡ with_line (f row) c.rows.lines) c.if-not-branch.false c.in_ok-put_line.ensures)
    c.rows.invariant
