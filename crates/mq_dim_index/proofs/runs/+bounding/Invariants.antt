use Rattle.mq_dim_index.proofs.runs.+bounding.Given as goal

abbrev pub invariant-bound_among-loop-test : goal.invariant-bound_among-loop-test
invariant-bound_among-loop-test l = Unit {0}
