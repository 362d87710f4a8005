use Rattle.mq_ir.specs.Shape.{Assignment}
use Rattle.mq_values.specs.KeySetLaws.{Gathered}
use Rattle.mq_auto.proofs.rows.updated_keys.Given as goal

abbrev pub invariant-marking : goal.invariant-marking
invariant-marking l = Gathered (λ (a : Assignment). a.0) l.assigned l.assignment-index l.set
