use Rattle.std.proofs.Common.{◌≡◌, length, sym, subst, ◌∙◌}
use Rattle.std.proofs.lemmas.Result.{err_from_is_err_and}
use Rattle.mq_ir.specs.declared.query.SingleLeft.{SingleLeft}
use Rattle.mq_seq.specs.Steps.{act_in, left_done}
use Rattle.mq_ir.specs.StepLaws.{turn_exit, turn_next}
use Rattle.mq_seq.proofs.lefts.act_all.Goals as goal

pub act_one-requires : goal.act_one-requires
act_one-requires c =
    let left = c.left-item.result in
    let wide : length left.places ≡ c.args.grid.width = subst (λ (l : SingleLeft). length l.places ≡ c.args.grid.width) (sym c.left-item.is) (c.requires c.lefts.left-index left c.lefts-test.true) in
    wide ∙ sym c.lefts.invariant.same_width

pub returns-in_err-grid-clause-exact : goal.returns-in_err-grid-clause-exact
returns-in_err-grid-clause-exact c =
    let p = err_from_is_err_and c.from_residual.result c.from_residual.ensures.1 in
    rw (p.1, p.2)
    (turn_exit (left_done (act_in c.args.act.now)) c.args.grid c.args.lefts.now c.lefts.left-index c.lefts.grid c.left-item.result c.in_err-grid.field-0.0 c.lefts-test.true c.left-item.is
    c.lefts.invariant.turned c.in_err-grid.ensures.exact)

pub lefts-preserved : goal.lefts-preserved
lefts-preserved c = record {
  turned =
      turn_next (left_done (act_in c.args.act.now)) c.args.grid c.args.lefts.now c.lefts.left-index c.lefts.grid c.left-item.result c.in_ok-grid.grid c.lefts-test.true c.left-item.is
      c.in_ok-grid.ensures.exact c.lefts.invariant.turned;
  same_width = c.in_ok-grid.ensures.width ∙ c.lefts.invariant.same_width;
}
