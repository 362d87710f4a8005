use Rattle.std.proofs.Common.{◌≡◌}
use Rattle.std.specs.List.{AllWithin}
use Rattle.mq_values.specs.declared.operators.DimTest.TheVariants.{Any}
use Rattle.mq_dim_index.proofs.ranges.ask_nothing.Given as goal

abbrev pub invariant-loop-at : goal.invariant-loop-at
invariant-loop-at l = AllWithin (λ test. test ≡ Any) l.tests l.fn.from l.at
