use Rattle.std.proofs.Common.{◌≡◌, None, Ok, Err, sym, ap, subst, ◌∙◌}
use Rattle.std.specs.Map.{keys_of}
use Rattle.std.specs.Option.{option_map}
use Rattle.mq_values.specs.declared.faults.QueryFault.{QueryFault}
use Rattle.mq_ir.specs.Iteration.{input_fault}
use Rattle.mq_ir.specs.Placed.{at_partition}
use Rattle.mq_ir.specs.Unfolding.{model_of}
use Rattle.mq_auto_shape.specs.Conditions.{AreReady}
use Rattle.mq_auto_shape.specs.Found.{IsShapeOf, shape_meant}
use Rattle.mq_auto.specs.Findings.{IsJudged}
use Rattle.mq_auto.proofs.JudgeLemmas.{fault_judged, input_faulted, keys_ready, shape_judged}
use Rattle.mq_auto.proofs.judging.judge.Goals as goal

pub returns-in-Some : goal.returns-in-Some
returns-in-Some c = input_faulted (model_of c.args.m.now) c.args.p.now c.in-Some.fault (sym c.in-Some.is ∙ c.in_ok-fault.ensures)

pub indexed_shape_of-requires : goal.indexed_shape_of-requires
indexed_shape_of-requires c =
    let part = c.args.m.now.part.now in
    let p = c.args.p.now in
    let none : None ≡ option_map (at_partition p.key) (input_fault p) = sym c.in-None.is ∙ c.in_ok-fault.ensures in
    record { ready = subst (AreReady part) (sym (c.as_slice-2.ensures ∙ c.in_ok-keys.ensures ∙ ap keys_of c.as_slice.ensures)) (keys_ready part p c.requires.ready none) }

pub returns-in-Ok : goal.returns-in-Ok
returns-in-Ok c =
    let model = model_of c.args.m.now in
    let p = c.args.p.now in
    let found = c.in-Ok.found in
    let none : None ≡ option_map (at_partition p.key) (input_fault p) = sym c.in-None.is ∙ c.in_ok-fault.ensures in
    let same : c.as_slice-2.result.now ≡ keys_of p.cells = c.as_slice-2.ensures ∙ c.in_ok-keys.ensures ∙ ap keys_of c.as_slice.ensures in
    shape_judged model p none found (subst (λ keys. Ok found.shape ≡ shape_meant model keys) same (rw c.in-Ok.is at c.in_ok-shape.ensures.exact))
    (subst (λ keys. IsShapeOf model keys found.shape) same (rw c.in-Ok.is at c.in_ok-shape.ensures.shape)) (rw c.in-Ok.is at c.in_ok-shape.ensures.rounds) (rw c.in-Ok.is at c.in_ok-shape.ensures.indexed)

pub returns : goal.returns
returns c =
    let model = model_of c.args.m.now in
    let p = c.args.p.now in
    let fault = c.in-Err.fault in
    let none : None ≡ option_map (at_partition p.key) (input_fault p) = sym c.in-None.is ∙ c.in_ok-fault.ensures in
    let same : c.as_slice-2.result.now ≡ keys_of p.cells = c.as_slice-2.ensures ∙ c.in_ok-keys.ensures ∙ ap keys_of c.as_slice.ensures in
    subst (λ (f : QueryFault). IsJudged model p (Err f)) (sym c.in_partition.ensures)
    (fault_judged model p none fault c.in_ok-key.key c.in_ok-key.ensures (subst (λ keys. Err fault ≡ shape_meant model keys) same (rw c.in-Err.is at c.in_ok-shape.ensures.exact)))
