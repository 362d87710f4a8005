use Rattle.std.proofs.Common.{ℕ}
use Rattle.mq_ir.specs.Ready.{HaveLength, HavePlaces}
use Rattle.mq_auto_shape.specs.Walk.{left_grown}
use Rattle.mq_ir.specs.StepLaws.{Turned}
use Rattle.mq_auto_shape.proofs.lefts.grow_all.Given as goal

abbrev pub invariant-lefts : goal.invariant-lefts
invariant-lefts l = record {
  turned : Turned (left_grown l.number l.rule) l.fn.growth l.lefts l.left-index l.growth;
  wide : (n : ℕ) → HavePlaces n l.lefts → HaveLength n l.fn.growth.set → HaveLength n l.growth.set;
}
