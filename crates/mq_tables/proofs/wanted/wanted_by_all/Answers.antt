use Rattle.mq_tables.proofs.WantedLemmas.{goes_on_behind, one_refutes}
use Rattle.mq_tables.proofs.wanted.wanted_by_all.Goals as goal

pub returns-in-Some : goal.returns-in-Some
returns-in-Some c =
    one_refutes c.args.es.now c.conjuncts.e-index c.e-item.result c.conjuncts-test.true c.e-item.is c.conjuncts.invariant c.args.column c.in-Some.v.now c.in-Some.ensures

pub conjuncts-preserved : goal.conjuncts-preserved
conjuncts-preserved c =
    goes_on_behind c.args.es.now c.conjuncts.e-index c.e-item.result c.conjuncts-test.true c.e-item.is c.conjuncts.invariant
    (c.is_comparison.ensures c.if-not-is_comparison.false)
