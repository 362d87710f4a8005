use Rattle.mq_auto.proofs.ListedLemmas.{Listed}
use Rattle.mq_auto.proofs.input_keys.each_once.Given as goal

abbrev pub invariant-listing : goal.invariant-listing
invariant-listing l = Listed l.keys l.key-index l.met l.once
