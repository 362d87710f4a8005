use Rattle.mq_values.specs.KeySets.{Tuple}
use Rattle.mq_values.specs.KeySetLaws.{Gathered}
use Rattle.mq_values.proofs.key_set.set_of.Given as goal

abbrev pub invariant-loop-key : goal.invariant-loop-key
invariant-loop-key l = Gathered (λ (key : Tuple). key) l.keys l.key-index l.set
