use Rattle.std.proofs.Common.{◌≡◌, map, take}
use Rattle.mq_binder.specs.declared.found.ReferenceFound.{ReferenceFound}
use Rattle.mq_binder.proofs.models.reference_names.Given as goal

abbrev pub invariant-refs : goal.invariant-refs
invariant-refs l = l.names ≡ map (λ (r : ReferenceFound). r.names) (take l.r-index l.refs)
