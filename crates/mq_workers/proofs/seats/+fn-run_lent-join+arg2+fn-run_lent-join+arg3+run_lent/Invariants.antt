use Rattle.std.proofs.Common.{vec_len}
use Rattle.mq_workers.proofs.seats.+fn-run_lent-join+arg2+fn-run_lent-join+arg3+run_lent.Given as goal

abbrev pub decreases-join+arg2 : goal.decreases-join+arg2
decreases-join+arg2 g l = vec_len l.seats

abbrev pub decreases-join+arg3 : goal.decreases-join+arg3
decreases-join+arg3 g l = vec_len l.others

abbrev pub decreases-run_lent : goal.decreases-run_lent
decreases-run_lent g l = vec_len l.seats
