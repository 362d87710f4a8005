use Rattle.std.proofs.Common.{ap, ◌∙◌}
use Rattle.std.proofs.lemmas.Option.{IfSome_then}
use Rattle.mq_values.specs.DimTests.{meets}
use Rattle.mq_dim_index.proofs.BoundLemmas.{bound_and, bound_at, bound_cmp, bound_from, bound_in, bound_up_to, each_holds}
use Rattle.mq_dim_index.proofs.runs.+bounding.Goals as goal

pub bound_of-returns-in-At : goal.bound_of-returns-in-At
bound_of-returns-in-At t c = IfSome_then c.bound_by.result c.bound_by.ensures (λ bound h. bound_at c.args.test.now c.args.side c.in-At.w bound.now c.in-At.is h.1 h.0)

pub bound_of-returns-in-Cmp : goal.bound_of-returns-in-Cmp
bound_of-returns-in-Cmp t c = IfSome_then c.bound_by-in-Cmp.result c.bound_by-in-Cmp.ensures (λ bound h. bound_cmp c.args.test.now c.args.side c.in-Cmp.op c.in-Cmp.w bound.now c.in-Cmp.is h.1 h.0)

pub bound_of-returns-in-Some : goal.bound_of-returns-in-Some
bound_of-returns-in-Some t c = bound_from c.args.test.now c.args.side c.in-Between.low c.in-Between.high c.in-Some.w.now c.in-Between.is c.in-Some.ensures.1 c.in-Some.ensures.0

pub bound_of-returns-in-None : goal.bound_of-returns-in-None
bound_of-returns-in-None t c = IfSome_then c.bound_by-in-None.result c.bound_by-in-None.ensures (λ bound h. bound_up_to c.args.test.now c.args.side c.in-Between.low c.in-Between.high bound.now c.in-Between.is h.1 h.0)

pub bound_of-returns-in-And : goal.bound_of-returns-in-And
bound_of-returns-in-And t c =
    IfSome_then c.bound_among.result c.bound_among.ensures
    (λ bound h. bound_and c.args.test.now c.args.side c.in-And.tests bound.now c.in-And.is (λ v all. h v (rw c.as_slice-in-And.ensures all)))

pub bound_among-returns-in-Some : goal.bound_among-returns-in-Some
bound_among-returns-in-Some t c =
    λ v all. c.in-Some.ensures v (ap (meets v) c.test-item.is ∙ each_holds v c.args.tests.now c.loop-test.test-index c.test-item.result all c.loop-test-test.true)

pub bound_of-returns-in-In : goal.bound_of-returns-in-In
bound_of-returns-in-In t c =
    IfSome_then c.outermost.result c.outermost.ensures
    (λ bound h. bound_in c.args.side c.args.test.now c.in-In.ws bound.now c.in-In.is (λ v among. h v (rw c.as_slice.ensures among)))
