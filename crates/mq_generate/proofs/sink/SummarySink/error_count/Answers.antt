use Rattle.std.proofs.Common.{refl, arith, ap, ◌∙◌}
use Rattle.std.specs.Prelude.{◌≡◌, ◌+◌, count_by, if◌then◌else◌}
use Rattle.mq_generate.specs.Summary.{is_error, lines_of}
use Rattle.mq_generate.proofs.KeptLemmas.{counted_all, few_all, number_of}
use Rattle.mq_generate.proofs.sink.SummarySink.error_count.Goals as goal

pub overflow_add-result : goal.overflow_add-result
overflow_add-result c =
    let one : c.from.result ≡ (if is_error c.self.inside.begun.items then 1 else 0)
    = number_of c.from.result c.is_error.result (is_error c.self.inside.begun.items) c.from.ensures (c.is_error.ensures ∙ ap is_error c.deref.ensures.value) in
    omega (arith, one, few_all is_error c.self.inside.told.bytes c.self.inside.begun.items c.self.inside.errors refl c.self.invariant.begun c.self.invariant.errors)

pub returns : goal.returns
returns c =
    let one : c.from.result ≡ (if is_error c.self.inside.begun.items then 1 else 0)
    = number_of c.from.result c.is_error.result (is_error c.self.inside.begun.items) c.from.ensures (c.is_error.ensures ∙ ap is_error c.deref.ensures.value) in
    ap (λ n. c.self.inside.errors + n) one ∙ counted_all is_error c.self.inside.told.bytes c.self.inside.begun.items c.self.inside.errors refl c.self.invariant.begun c.self.invariant.errors
    ∙ ap (λ all. count_by is_error (lines_of all)) c.self.view_is
