use Rattle.std.proofs.Common.{◌≡◌, ◌-◌, List, Ok, ◌++◌, map}
use Rattle.std.specs.List.{range_with_len}
use Rattle.mq_values.specs.declared.value.Value.{Value}
use Rattle.mq_reads.specs.Aggregation.{comes_to, sum_at}
use Rattle.mq_refs.proofs.lenders.sum_of.Given as goal

-- what the sum comes to with the places of the run that are left
abbrev pub invariant-loop-place : goal.invariant-loop-place
invariant-loop-place g l =
    (values : List Value) →
    comes_to (sum_at (Ok l.total)) (map (g.L.Lender.value l.lender) (range_with_len l.place (l.fn.run.past - l.place)) ++ values)
    ≡ comes_to (sum_at (Ok l.fn.total)) (map (g.L.Lender.value l.lender) (range_with_len l.fn.run.first (l.fn.run.past - l.fn.run.first)) ++ values)
