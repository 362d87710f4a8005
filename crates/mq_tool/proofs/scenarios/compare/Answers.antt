use Rattle.std.proofs.Common.{Ok, refl, sym, ap, ◌∙◌}
use Rattle.mq_ir.specs.Scenarios.{compare_step}
use Rattle.mq_tool.specs.Comparisons.{all_compared}
use Rattle.mq_tool.proofs.CompareLemmas.{compared_is, none_compared}
use Rattle.mq_tool.proofs.scenarios.compare.Goals as goal

pub returns-in-Err-Cause : goal.returns-in-Err-Cause
returns-in-Err-Cause g c =
    let old = c.args.engine.now in
    let names = c.args.names.now in
    λ files line. (
      ap (λ n. compare_step old n names) (sym c.as_str.ensures)
          ∙ none_compared old c.as_str.result.now names c.in-Err-Cause.none (rw c.in-Err-Cause.field-0-is at c.in-Err-Cause.ensures.exact),
      c.in-Err-Cause.ensures.same,
      refl,
    )

pub returns-in_ok-comparison_text-in-Ok : goal.returns-in_ok-comparison_text-in-Ok
returns-in_ok-comparison_text-in-Ok g c =
    let old = c.args.engine.now in
    let names = c.args.names.now in
    let text = c.in_ok-comparison_text-in-Ok.ensures in
    λ files line. (
      (old, all_compared names c.deref.result.now),
      ap (λ n. compare_step old n names) (sym c.as_str.ensures)
          ∙ compared_is old c.as_str.result.now names c.in-Ok.found.items c.in-Ok.ensures.exact
          ∙ ap (λ found. Ok (old, all_compared names found)) (sym c.deref.ensures.value),
      (c.in-Ok.ensures.same, text.0, text.1),
    )
