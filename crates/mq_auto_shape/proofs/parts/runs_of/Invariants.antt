use Rattle.std.proofs.Common.{◌≡◌, ◌++◌, drop}
use Rattle.std.specs.List.{filter_map}
use Rattle.mq_refs.specs.LookParts.{looks_in}
use Rattle.mq_auto_shape.specs.Edges.{number_looked}
use Rattle.mq_auto_shape.specs.LaneRuns.{numbers_of}
use Rattle.mq_auto_shape.proofs.parts.runs_of.Given as goal

abbrev pub invariant-parts : goal.invariant-parts
invariant-parts l = numbers_of l.numbers.lanes l.runs ++ filter_map (number_looked l.numbers) (looks_in l.numbers.keys (drop l.part-index l.parts))
    ≡ filter_map (number_looked l.numbers) (looks_in l.numbers.keys l.parts)
