use Rattle.std.proofs.Common.{refl, arith, ap, ◌∙◌}
use Rattle.std.specs.Prelude.{◌≡◌, ◌+◌, count_by, if◌then◌else◌}
use Rattle.mq_generate.specs.Summary.{is_fault, lines_of}
use Rattle.mq_generate.proofs.KeptLemmas.{counted_all, few_all, number_of}
use Rattle.mq_generate.proofs.sink.SummarySink.fault_count.Goals as goal

pub overflow_add-result : goal.overflow_add-result
overflow_add-result c =
    let one : c.from.result ≡ (if is_fault c.self.inside.begun.items then 1 else 0)
    = number_of c.from.result c.is_fault.result (is_fault c.self.inside.begun.items) c.from.ensures (c.is_fault.ensures ∙ ap is_fault c.deref.ensures.value) in
    omega (arith, one, few_all is_fault c.self.inside.told.bytes c.self.inside.begun.items c.self.inside.faults refl c.self.invariant.begun c.self.invariant.faults)

pub returns : goal.returns
returns c =
    let one : c.from.result ≡ (if is_fault c.self.inside.begun.items then 1 else 0)
    = number_of c.from.result c.is_fault.result (is_fault c.self.inside.begun.items) c.from.ensures (c.is_fault.ensures ∙ ap is_fault c.deref.ensures.value) in
    ap (λ n. c.self.inside.faults + n) one ∙ counted_all is_fault c.self.inside.told.bytes c.self.inside.begun.items c.self.inside.faults refl c.self.invariant.begun c.self.invariant.faults
    ∙ ap (λ all. count_by is_fault (lines_of all)) c.self.view_is
