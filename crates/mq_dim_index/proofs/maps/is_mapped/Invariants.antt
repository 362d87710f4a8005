use Rattle.mq_dim_index.proofs.maps.is_mapped.Given as goal

abbrev pub invariant-loop-map : goal.invariant-loop-map
invariant-loop-map l = Unit {0}
