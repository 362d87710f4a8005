use Rattle.std.proofs.Common.{◌≡◌, ◌+◌, ◌≤◌, ℕ, true, [], take}
use Rattle.std.specs.List.{All}
use Rattle.mq_cells.specs.Stores.{Results}
use Rattle.mq_auto_shape.specs.Found.{place_comes_in}
use Rattle.mq_delta_cells.specs.Bounds.{total}
use Rattle.mq_delta_cells.specs.Walks.{IsDue, IsWalked, ground_of, model_at, reads_at}
use Rattle.mq_delta_cells.proofs.walking.walk_round.Given as goal

-- the places so far are done
abbrev pub invariant-places : goal.invariant-places
invariant-places g l = record {
  walked : (first : Results) (n : ℕ) → All (λ place. place_comes_in (model_at l.work) l.work.shape.now n place ≡ true) l.round
      → IsWalked (ground_of l.work) (g.C.Cells.input l.fn.cells) first n [] l.fn.changed (g.C.Cells.results l.fn.cells)
      → IsWalked (ground_of l.work) (g.C.Cells.input l.fn.cells) first n (take l.place-index l.round) l.changed (g.C.Cells.results l.cells);
  reads : (first : Results) (n : ℕ) → All (λ place. place_comes_in (model_at l.work) l.work.shape.now n place ≡ true) l.round
      → IsWalked (ground_of l.work) (g.C.Cells.input l.fn.cells) first n [] l.fn.changed (g.C.Cells.results l.fn.cells)
      → g.C.Cells.looks l.cells ≤ g.C.Cells.looks l.fn.cells + total (reads_at (ground_of l.work)) (take l.place-index l.round);
  due : IsDue (ground_of l.work) l.changed l.due.items;
  same : g.C.Cells.input l.cells ≡ g.C.Cells.input l.fn.cells;
}
