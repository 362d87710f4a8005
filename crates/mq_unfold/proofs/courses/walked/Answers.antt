use Rattle.std.proofs.Common.{◌≡◌, ◌++◌, ◌∷◌, [], ap, ◌∙◌, ℕ, arith}
use Rattle.mq_ir.specs.declared.query.SinglePlace.TheVariants as place
use Rattle.mq_unfold.specs.Steps.{stepped}
use Rattle.mq_unfold.proofs.StepLemmas.{first_is, next_is, next_on, next_stays, start_is, stepped_on}
use Rattle.mq_unfold.proofs.courses.walked.Goals as goal

pub loop-taken-init : goal.loop-taken-init
loop-taken-init c = record {
  so_far =
      c.in_ok-push.ensures.ok
      ∙ (λ i. c.new-places.ensures i ++ place.At (c.value_on.ensures i) ∷ [])
      ∙ first_is c.args.down c.args.course.now;
  stands = start_is c.args.down c.args.course.now;
}

pub next-n-requires : goal.next-n-requires
next-n-requires c =
    next_stays c.args.down c.args.course.now c.args.last c.loop-taken._taken c.requires.last c.loop-taken-test.true c.loop-taken.n
    c.mant-first.ensures.range c.mant-bound.ensures.range c.loop-taken.invariant.stands

pub value_on-requires-in-loop-taken : goal.value_on-requires-in-loop-taken
value_on-requires-in-loop-taken c =
    let course = c.args.course.now in
    let k = c.loop-taken._taken in
    next_on c.args.down course c.args.last k c.requires.last c.loop-taken-test.true c.next-n.result c.requires.ends
    (next_is c.args.down course k c.loop-taken.n c.next-n.result c.loop-taken.invariant.stands c.next-n.ensures)

pub loop-taken-preserved : goal.loop-taken-preserved
loop-taken-preserved c =
    let course = c.args.course.now in
    let k = c.loop-taken._taken in
    let n = next_is c.args.down course k c.loop-taken.n c.next-n.result c.loop-taken.invariant.stands c.next-n.ensures in
    record {
      so_far =
          c.in_ok-push-2.ensures.ok
          ∙ stepped_on c.args.down course k c.loop-taken.places c.next-n.result c.value_on-in-loop-taken.result c.loop-taken.invariant.so_far n
          c.value_on-in-loop-taken.ensures;
      stands = n;
    }

pub returns : goal.returns
returns c =
    let e : c.loop-taken._taken ≡ c.args.last = omega arith in
    c.loop-taken.invariant.so_far ∙ ap (stepped c.args.down c.args.course.now) e
