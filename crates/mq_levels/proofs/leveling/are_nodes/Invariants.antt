use Rattle.std.proofs.Common.{◌<◌, length, take}
use Rattle.std.specs.List.{All}
use Rattle.mq_levels.specs.Levels.{reads_in}
use Rattle.mq_levels.proofs.leveling.are_nodes.Given as goal

abbrev pub invariant-loop-list : goal.invariant-loop-list
invariant-loop-list l = All (λ list. All (λ read. read < length l.reads) list) (reads_in (take l.list-index l.reads))
