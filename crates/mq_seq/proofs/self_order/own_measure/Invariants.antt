use Rattle.std.proofs.Common.{◌+◌, ◌-◌, length}
use Rattle.mq_seq.proofs.self_order.own_measure.Given as goal

abbrev pub decreases-reaching : goal.decreases-reaching
decreases-reaching l = l.m + 1 - length l.own.items
