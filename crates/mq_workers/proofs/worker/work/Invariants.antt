use Rattle.std.proofs.Common.{◌-◌, length}
use Rattle.mq_claims.specs.Calls.{IsSeatOf, MayClaim, IsAsFirst, handed_in, view_of}
use Rattle.mq_workers.specs.Runs.{EachIsRun}
use Rattle.mq_workers.proofs.EntryLemmas.{reach}
use Rattle.mq_workers.proofs.worker.work.Given as goal

abbrev pub invariant-claims : goal.invariant-claims
invariant-claims g l = IsSeatOf l.board l.seat × MayClaim l.seat × IsAsFirst l.fn.seat l.seat
    × EachIsRun g.P.Piece.ran (handed_in l.board) (view_of l.seat).entries

abbrev pub decreases-claims : goal.decreases-claims
decreases-claims g l = length (handed_in l.board) - reach (view_of l.seat).entries
