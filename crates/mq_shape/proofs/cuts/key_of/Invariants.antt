use Rattle.std.proofs.Common.{◌≡◌, take}
use Rattle.mq_shape.proofs.cuts.key_of.Given as goal

abbrev pub invariant-loop-v : goal.invariant-loop-v
invariant-loop-v l = l.copies ≡ take l.v-index l.values
