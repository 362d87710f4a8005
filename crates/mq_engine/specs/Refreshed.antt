-- What is kept of a partition after a change of its input.
use Rattle.std.specs.Prelude.{Option, None, Some}
use Rattle.mq_auto.specs.declared.verdict.Verdict.{Verdict}
use Rattle.mq_auto.specs.declared.verdict.Verdict.TheVariants.{Done, Broken}
use Rattle.mq_ir.specs.declared.query.PartShape.{PartShape}

-- its shape, and nothing where a fault of the shape or a CYCLE came
abbrev pub kept_of : Verdict → Option PartShape
kept_of (Done shape) = Some shape
kept_of (Broken fault) = None
