use Rattle.std.proofs.Common.{[]}
use Rattle.mq_binder.specs.ReferenceWalk.{reference_bound, reference_name}
use Rattle.mq_bind_expr.specs.StepLemmas.{Behind}
use Rattle.mq_binder.proofs.references.references_found.Given as goal

abbrev pub invariant-refs : goal.invariant-refs
invariant-refs l = Behind (reference_bound l.catalog l.around) reference_name [] l.refs l.r-index l.found l.names
