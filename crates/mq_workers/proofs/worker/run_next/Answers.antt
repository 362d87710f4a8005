use Rattle.std.proofs.Common.{List, map, ap, ◌∙◌}
use Rattle.mq_claims.specs.declared.view.View.{View}
use Rattle.mq_claims.specs.Views.{with_piece}
use Rattle.mq_claims.specs.Calls.{handed_in}
use Rattle.mq_workers.proofs.ListLemmas.{at}
use Rattle.mq_workers.proofs.EntryLemmas.{put_last}
use Rattle.mq_workers.proofs.worker.run_next.Goals as goal

pub after_run-done-requires-clause-ready : goal.after_run-done-requires-clause-ready
after_run-done-requires-clause-ready g c κs alive = at g.P.Piece.ready (handed_in c.args.board.now) c.in_ok-k.k c.take-piece.result c.requires.ready
    c.take-piece.ensures.piece

pub returns-clause-ran : goal.returns-clause-ran
returns-clause-ran g c = let k = c.in_ok-k.k in let p = c.after_run-done.result in (
  p,
  (c.take-piece.result, c.take-piece.ensures.piece, c.after_run-done.ensures.ran),
  ap (λ (m : View _ × List _). m.0.entries) c.put.ensures.done ∙ ap (λ (v : View _). map (with_piece k p) v.entries) (c.take-piece.ensures.taken.0
      ∙ c.in_ok-k.ensures.claimed.0) ∙ put_last k p _ c.in_ok-k.ensures.number.1,
)
