use Rattle.std.proofs.Common.{List, Ok, ap, sym, subst, ◌∙◌}
use Rattle.std.specs.List.{All}
use Rattle.mq_values.specs.Answers.{result_map}
use Rattle.mq_ir.specs.declared.query.PartInput.{PartInput}
use Rattle.mq_ir.specs.Printing.{printed_rows}
use Rattle.mq_ir.specs.Unfolding.{Model}
use Rattle.mq_sources.specs.References.{cells_of_arrays}
use Rattle.mq_kept.specs.Kept.{IsRight, inputs_of, model_in, model_with}
use Rattle.mq_answers.specs.Models.{gathered_rows}
use Rattle.mq_answers.specs.Queries.{shown_of}
use Rattle.mq_answers.proofs.KeptLemmas.{kept_shown}
use Rattle.mq_answers.proofs.kept_answers.answer_of_view.Goals as goal

pub returns-clause-exact : goal.returns-clause-exact
returns-clause-exact g c =
    λ tables kept.
    c.in_ok-parts.ensures.exact
    ∙ ap (λ (model : Model). shown_of (result_map (printed_rows c.args.q.now) (gathered_rows model (inputs_of c.args.view.parts))))
    (λ i. model_with c.args.part.now (c.as_slice.ensures i) (cells_of_arrays (c.as_slice-2.ensures i)))
    ∙ kept_shown tables c.args.q.now c.args.part.now c.args.view c.requires.model kept.read

pub returns-clause-standing : goal.returns-clause-standing
returns-clause-standing g c =
    let part = c.args.part.now in
    λ tables kept.
    let right = subst (λ (model : Model). All (IsRight model) c.in_ok-parts.parts)
    (λ i. model_with part (c.as_slice.ensures i) (cells_of_arrays (c.as_slice-2.ensures i))) c.in_ok-parts.ensures.right in
    record {
      right = right;
      kept = λ e. record {
        read = kept.read ∙ ap (λ (inputs : List PartInput). Ok (inputs, model_in part c.args.view)) (sym c.in_ok-parts.ensures.same);
        right = right;
        lines = kept.lines;
      };
    }
