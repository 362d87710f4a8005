use Rattle.std.proofs.Common.{◌≡◌, ◌-◌, List, ◌++◌, map}
use Rattle.std.specs.List.{range_with_len}
use Rattle.mq_values.specs.declared.value.Value.{Value}
use Rattle.mq_reads.specs.Aggregation.{comes_to}
use Rattle.mq_refs.proofs.lenders.with_each.Given as goal

-- what the aggregate comes to with the places of the run that are left
abbrev pub invariant-loop-place : goal.invariant-loop-place
invariant-loop-place g l =
    (values : List Value) →
    comes_to l.aggregation (map (g.L.Lender.value l.lender) (range_with_len l.place (l.fn.run.past - l.place)) ++ values)
    ≡ comes_to l.fn.aggregation (map (g.L.Lender.value l.lender) (range_with_len l.fn.run.first (l.fn.run.past - l.fn.run.first)) ++ values)
