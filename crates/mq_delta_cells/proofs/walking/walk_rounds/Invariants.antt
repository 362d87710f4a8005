use Rattle.std.proofs.Common.{◌≡◌, ◌+◌, ◌≤◌, []}
use Rattle.mq_delta_cells.specs.Walks.{IsDue, IsWalked, ground_of}
use Rattle.mq_delta_cells.proofs.WalkLemmas.{spent}
use Rattle.mq_delta_cells.proofs.walking.walk_rounds.Given as goal

-- the rounds so far are done
abbrev pub invariant-rounds : goal.invariant-rounds
invariant-rounds g l = record {
  walked : IsWalked (ground_of l.work) (g.C.Cells.input l.fn.cells) (g.C.Cells.results l.fn.cells) l.round-index [] l.changed (g.C.Cells.results l.cells);
  reads : g.C.Cells.looks l.cells ≤ g.C.Cells.looks l.fn.cells + spent (ground_of l.work) l.round-index;
  due : IsDue (ground_of l.work) l.changed l.due.items;
  same : g.C.Cells.input l.cells ≡ g.C.Cells.input l.fn.cells;
}
