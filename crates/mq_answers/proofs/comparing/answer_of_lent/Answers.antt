use Rattle.std.proofs.Common.{ap, sym, subst, ◌∙◌}
use Rattle.std.specs.List.{All}
use Rattle.std.proofs.lemmas.Result.{IfOk-weaker}
use Rattle.mq_values.specs.Answers.{result_map}
use Rattle.mq_ir.specs.Printing.{printed_rows}
use Rattle.mq_ir.specs.Unfolding.{Model}
use Rattle.mq_sources.specs.References.{cells_of_arrays}
use Rattle.mq_kept.specs.Kept.{IsRight, inputs_of, model_with}
use Rattle.mq_kept.specs.Lent.{with_parts}
use Rattle.mq_answers.specs.Models.{gathered_rows}
use Rattle.mq_answers.specs.Queries.{shown_of}
use Rattle.mq_answers.proofs.KeptLemmas.{kept_shown}
use Rattle.mq_answers.proofs.comparing.answer_of_lent.Goals as goal

pub answer_shown-requires : goal.answer_shown-requires
answer_shown-requires c = record {
  right =
      subst (λ (model : Model). All (IsRight model) c.args.parts.items)
      (sym (λ i. model_with c.args.part.now (c.as_slice.ensures i) (cells_of_arrays (c.as_slice-2.ensures i))))
      c.requires.right;
}

pub returns : goal.returns
returns c =
    λ tables kept.
    IfOk-weaker c.answer_shown.result _ _
    (λ a h.
    h
    ∙ ap (λ (model : Model). shown_of (result_map (printed_rows c.args.q.now) (gathered_rows model (inputs_of c.args.parts.items))))
    (λ i. model_with c.args.part.now (c.as_slice.ensures i) (cells_of_arrays (c.as_slice-2.ensures i)))
    ∙ kept_shown tables c.args.q.now c.args.part.now (with_parts c.args.view.now c.args.parts.items) c.requires.model kept.read)
    c.answer_shown.ensures
