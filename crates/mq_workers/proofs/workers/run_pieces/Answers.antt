use Rattle.std.proofs.Common.{subst}
use Rattle.std.specs.List.{AllZip}
use Rattle.mq_claims.specs.Calls.{handed_in, view_of}
use Rattle.mq_workers.proofs.ListLemmas.{ok_then}
use Rattle.mq_workers.proofs.RunLemmas.{all_ran}
use Rattle.mq_workers.proofs.workers.run_pieces.Goals as goal

pub returns : goal.returns
returns g c =
    let ran = g.P.Piece.ran in let done = c.in_ok-first.ensures.0 in let view = view_of c.in_ok-first.first in
    record {
      ran = ok_then c.close.result c.close.ensures.whole (λ v whole. subst (λ handed. AllZip ran handed v.items)
          c.in_ok-board.ensures.board (all_ran ran (handed_in c.in_ok-board.board) v.items view done.0.1 whole done.2));
    }
