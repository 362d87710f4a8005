use Rattle.std.proofs.Common.{◌≡◌, ◌++◌, drop, not}
use Rattle.std.specs.List.{filter}
use Rattle.mq_ir.specs.Keys.{is_among}
use Rattle.mq_targets.proofs.choosing.settled.Given as goal

abbrev pub invariant-loop-key : goal.invariant-loop-key
invariant-loop-key l = record {
  cells : l.cells ++ drop l.key-index l.wanted ≡ l.wanted;
  created : l.created ++ filter (λ other. not (is_among l.fn.keys other)) (drop l.key-index l.wanted) ≡ filter (λ other. not (is_among l.fn.keys other)) l.wanted;
}
