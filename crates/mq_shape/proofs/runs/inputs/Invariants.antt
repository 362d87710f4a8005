use Rattle.std.proofs.Common.{◌≡◌, ◌++◌, length}
use Rattle.mq_ir.specs.Rising.{Rising}
use Rattle.mq_shape.specs.Runs.{by_parts, inputs_in}
use Rattle.mq_shape.proofs.runs.inputs.Given as goal

-- the inputs so far and those of the rest are those of all rows
abbrev pub invariant-loop-rest : goal.invariant-loop-rest
invariant-loop-rest l = record { inputs : inputs_in l.q l.fn.rows ≡ l.inputs ++ inputs_in l.q l.rest; rising : Rising (by_parts l.q.parts) l.rest }

abbrev pub decreases-loop-rest : goal.decreases-loop-rest
decreases-loop-rest l = length l.rest
