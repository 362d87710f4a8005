use Rattle.std.proofs.Common.{◌≡◌, ℕ, length, sym, subst}
use Rattle.std.proofs.lemmas.List.Elements.{All-get_or}
use Rattle.std.proofs.lemmas.Result.{err_from_is_err_and}
use Rattle.mq_ir.specs.declared.query.SingleLeft.{SingleLeft}
use Rattle.mq_ir.specs.Ready.{HaveLength}
use Rattle.mq_auto_shape.specs.Walk.{left_grown}
use Rattle.mq_ir.specs.StepLaws.{turn_end, turn_exit, turn_next, turn_start}
use Rattle.mq_auto_shape.proofs.WalkLemmas.{left_wide}
use Rattle.mq_auto_shape.proofs.lefts.grow_all.Goals as goal

pub lefts-init : goal.lefts-init
lefts-init c = record { turned = turn_start (left_grown c.args.number c.args.rule.now) c.args.growth c.args.lefts.now; wide = λ n p h. h }

pub grow_one-requires : goal.grow_one-requires
grow_one-requires c =
    let lefts = c.args.lefts.now in
    let left = c.left-item.result in
    let n = c.requires.width in
    let places : length left.places ≡ n =
    subst (λ (l : SingleLeft). length l.places ≡ n) (sym c.left-item.is) (All-get_or (λ (l : SingleLeft). length l.places ≡ n) lefts c.lefts.left-index left c.lefts-test.true c.requires.places) in
    subst (λ (k : ℕ). HaveLength k c.lefts.growth.set) (sym places) (c.lefts.invariant.wide n c.requires.places c.requires.values)

pub returns-in_err-growth : goal.returns-in_err-growth
returns-in_err-growth c =
    let p = err_from_is_err_and c.from_residual.result c.from_residual.ensures.1 in
    rw (p.1, p.2)
    (turn_exit (left_grown c.args.number c.args.rule.now) c.args.growth c.args.lefts.now c.lefts.left-index c.lefts.growth c.left-item.result c.in_err-growth.field-0.0 c.lefts-test.true c.left-item.is
    c.lefts.invariant.turned c.in_err-growth.ensures)

pub lefts-preserved : goal.lefts-preserved
lefts-preserved c =
    let number = c.args.number in
    let rule = c.args.rule.now in
    let lefts = c.args.lefts.now in
    let left = c.left-item.result in
    let i = c.lefts.left-index in
    record {
      turned =
          turn_next (left_grown number rule) c.args.growth lefts i c.lefts.growth left c.in_ok-growth.growth c.lefts-test.true c.left-item.is c.in_ok-growth.ensures c.lefts.invariant.turned;
      wide =
          λ n p h.
          left_wide number rule left c.lefts.growth n c.in_ok-growth.growth
          (subst (λ (l : SingleLeft). length l.places ≡ n) (sym c.left-item.is) (All-get_or (λ (l : SingleLeft). length l.places ≡ n) lefts i left c.lefts-test.true p)) c.in_ok-growth.ensures
          (c.lefts.invariant.wide n p h);
    }

pub returns : goal.returns
returns c = turn_end (left_grown c.args.number c.args.rule.now) c.args.growth c.args.lefts.now c.lefts.left-index c.lefts.growth c.lefts-test.false c.lefts.invariant.turned
