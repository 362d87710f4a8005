use Rattle.std.proofs.Common.{take}
use Rattle.std.specs.List.{zip}
use Rattle.mq_refs.specs.Sites.{index_named, site_of}
use Rattle.mq_scalar.specs.WalkLaws.{Walked}
use Rattle.mq_refs.proofs.names.names_at_once.Given as goal

abbrev pub invariant-loop-i : goal.invariant-loop-i
invariant-loop-i l = Walked (index_named (site_of l.at)) (zip l.kinds l.indices) l.i (take l.i l.key)
