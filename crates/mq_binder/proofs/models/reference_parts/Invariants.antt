use Rattle.std.proofs.Common.{◌≡◌, map}
use Rattle.mq_binder.specs.declared.found.ReferenceFound.{ReferenceFound}
use Rattle.mq_binder.proofs.models.reference_parts.Given as goal

abbrev pub invariant-refs : goal.invariant-refs
invariant-refs l = l.parts ≡ map (λ (r : ReferenceFound). r.part) l.yielded
