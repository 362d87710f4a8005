use Rattle.std.proofs.Common.{sym, ◌∙◌, arith}
use Rattle.mq_ir.specs.Unfolding.{model_of}
use Rattle.mq_answers.proofs.StretchLemmas.{found_fault, found_next}
use Rattle.mq_answers.proofs.stretches.found_in.Goals as goal

pub returns-then-is_last : goal.returns-then-is_last
returns-then-is_last g c =
    found_fault (model_of c.args.m.now) c.args.inputs.now c.loop-p.p-index c.loop-p.found c.p-item.result c.in_ok-next.next c.push.new.self
    (omega (arith, c.loop-p-test.true)) c.p-item.is c.in_ok-next.ensures.exact c.in_ok-push.ensures.ok
    (sym c.is_fault-is_last.ensures ∙ c.if-is_last.true) c.loop-p.invariant.1

pub loop-p-preserved : goal.loop-p-preserved
loop-p-preserved g c = (
  c.found_at.ensures.same ∙ c.loop-p.invariant.0,
  found_next (model_of c.args.m.now) c.args.inputs.now c.loop-p.p-index c.loop-p.found c.p-item.result c.in_ok-next.next c.push.new.self
      (omega (arith, c.loop-p-test.true)) c.p-item.is c.in_ok-next.ensures.exact c.in_ok-push.ensures.ok c.loop-p.invariant.1,
)
