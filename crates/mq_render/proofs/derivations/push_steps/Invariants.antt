use Rattle.std.proofs.Common.{◌≡◌, ◌++◌, take, map}
use Rattle.mq_ir.specs.Lines.{text_of}
use Rattle.mq_render.specs.Derivations.{step_line}
use Rattle.mq_render.proofs.derivations.push_steps.Given as goal

abbrev pub invariant-steps : goal.invariant-steps
invariant-steps l = l.out.items ≡ l.fn.out.items ++ text_of (map (step_line l.names) (take l.step-index l.steps))
