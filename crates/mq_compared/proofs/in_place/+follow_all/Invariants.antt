use Rattle.std.proofs.Common.{◌-◌, length}
use Rattle.mq_compared.proofs.in_place.+follow_all.Given as goal

abbrev pub decreases-follow_all : goal.decreases-follow_all
decreases-follow_all l = length l.changes.now - l.at
