use Rattle.std.proofs.Common.{◌≡◌, map}
use Rattle.mq_binder.specs.PlainWalk.{Item}
use Rattle.mq_binder.proofs.plain.parted.Given as goal

abbrev pub invariant-items : goal.invariant-items
invariant-items l = (l.es ≡ map (λ (i : Item). i.0) l.yielded) × (l.printed ≡ map (λ (i : Item). i.1) l.yielded)
