use Rattle.std.proofs.Common.{rules}
use Rattle.mq_claims.specs.Calls.{handed_in, view_of}
use Rattle.mq_workers.proofs.RunLemmas.{nearer}
use Rattle.mq_workers.proofs.worker.work.Goals as goal

pub claims-smaller : goal.claims-smaller
claims-smaller g c = nearer g.P.Piece.ran (handed_in c.args.board.now) c.run_next.result (view_of c.claims.seat).entries
    (view_of c.run_next.new.seat).entries c.run_next.ensures.number c.run_next.ensures.ran (search rules)
