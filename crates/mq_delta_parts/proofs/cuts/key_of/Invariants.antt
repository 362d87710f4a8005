use Rattle.std.proofs.Common.{◌≡◌, take}
use Rattle.mq_delta_parts.proofs.cuts.key_of.Given as goal

abbrev pub invariant-values : goal.invariant-values
invariant-values l = l.copies ≡ take l.v-index l.values
