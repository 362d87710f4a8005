use Rattle.std.proofs.Common.{◌≡◌, ◌-◌, drop, take}
use Rattle.std.specs.List.{list_any}
use Rattle.mq_seq.specs.Steps.{is_other}
use Rattle.mq_seq.proofs.self_order.run_has_other.Given as goal

abbrev pub invariant-loop-place : goal.invariant-loop-place
invariant-loop-place g l = list_any (is_other l.set l.target) (take (l.fn.past - l.place) (drop l.place (g.K.CellKeys.set l.cells)))
    ≡ list_any (is_other l.set l.target) (take (l.fn.past - l.fn.first) (drop l.fn.first (g.K.CellKeys.set l.cells)))
