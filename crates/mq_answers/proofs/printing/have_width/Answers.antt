use Rattle.std.proofs.Common.{◌≡◌, length, take, get_or, ap, sym, subst, take_all, ◌∙◌}
use Rattle.std.proofs.lemmas.List.{take_more}
use Rattle.std.proofs.lemmas.List.Elements.{All-push}
use Rattle.mq_ir.specs.Partitions.{Tuple}
use Rattle.mq_ir.specs.Ready.{HaveLength}
use Rattle.mq_answers.proofs.printing.have_width.Goals as goal

pub loop-row-preserved : goal.loop-row-preserved
loop-row-preserved c =
    let rows = c.args.rows.now in
    let i = c.loop-row.row-index in
    let row = c.row-item.result in
    subst (HaveLength c.args.width) (sym (take_more rows i row c.loop-row-test.true))
    (All-push (λ (key : Tuple). length key ≡ c.args.width) (take i rows) (get_or rows i row) c.loop-row.invariant
    (ap length (sym c.row-item.is) ∙ ap length (sym c.as_slice.ensures) ∙ c.if-as_slice-width.false))

pub returns : goal.returns
returns c = λ _. subst (HaveLength c.args.width) (take_all c.loop-row.row-index c.args.rows.now c.loop-row-test.false) c.loop-row.invariant
