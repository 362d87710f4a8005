use Rattle.std.proofs.Common.{◌≡◌, ◌++◌, drop}
use Rattle.mq_cells.specs.Replays.{looks_after, replayed}
use Rattle.mq_cells.proofs.replays.replay.Given as goal

-- what was made so far, and then the calls that are left, is what all calls make
abbrev pub invariant-loop-call : goal.invariant-loop-call
invariant-loop-call g l = record {
  slots : l.slots.items ++ (replayed (g.C.Cells.input l.fn.cells) (g.C.Cells.results l.cells) (drop l.call-index l.calls)).0 ≡ (replayed (g.C.Cells.input l.fn.cells) (g.C.Cells.results l.fn.cells) l.calls).0;
  results : (replayed (g.C.Cells.input l.fn.cells) (g.C.Cells.results l.cells) (drop l.call-index l.calls)).1 ≡ (replayed (g.C.Cells.input l.fn.cells) (g.C.Cells.results l.fn.cells) l.calls).1;
  looks : looks_after (g.C.Cells.looks l.cells) (drop l.call-index l.calls) ≡ looks_after (g.C.Cells.looks l.fn.cells) l.calls;
  input : g.C.Cells.input l.cells ≡ g.C.Cells.input l.fn.cells;
}
