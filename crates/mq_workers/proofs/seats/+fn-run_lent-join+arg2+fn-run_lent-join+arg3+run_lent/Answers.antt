use Rattle.std.proofs.Common.{All, sym, subst, rules}
use Rattle.std.proofs.lemmas.List.Elements.{All-append}
use Rattle.mq_workers.specs.Runs.{HasWorked}
use Rattle.mq_workers.proofs.seats.+fn-run_lent-join+arg2+fn-run_lent-join+arg3+run_lent.Goals as goal

pub returns-clause-worked : goal.returns-clause-worked
returns-clause-worked g t c =
    let Q = HasWorked g.P.Piece.ran c.args.board.now in
    let one : All Q c.in_ok-all.all.items = search rules in let other : All Q c.in_ok-rest.rest.items = search rules in
    subst (All Q) (sym c.in_ok-append.ensures.items) (All-append Q _ _ one other)
