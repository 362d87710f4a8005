use Rattle.std.proofs.Common.{◌≡◌, ◌++◌, drop, length, map, reverse}
use Rattle.std.specs.List.Sorted.{IsStrictlySortedBy}
use Rattle.mq_ir.specs.Shape.{cmp_assignment}
use Rattle.mq_auto_shape.specs.Walk.{assigned_by, cmp_measure, placed_all}
use Rattle.mq_auto_shape.proofs.nodes.merged.Given as goal

abbrev pub invariant-placing : goal.invariant-placing
invariant-placing l = record {
  front : l.keys.items ++ drop (length l.keys.items) l.fn.keys.items ≡ l.fn.keys.items;
  placed : l.before.items ++ reverse l.behind.items ≡ placed_all cmp_assignment (map (assigned_by l.m l.number) (drop (length l.keys.items) l.fn.keys.items)) l.fn.nodes.items;
  strict : IsStrictlySortedBy cmp_measure (l.before.items ++ reverse l.behind.items);
}

abbrev pub decreases-placing : goal.decreases-placing
decreases-placing l = length l.keys.items
