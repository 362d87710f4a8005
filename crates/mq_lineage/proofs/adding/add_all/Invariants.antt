use Rattle.mq_lineage.proofs.AddLemmas.{AreAdded}
use Rattle.mq_lineage.proofs.adding.add_all.Given as goal

abbrev pub invariant-looks : goal.invariant-looks
invariant-looks l = AreAdded l.looks l.look-index l.fn.found l.found
