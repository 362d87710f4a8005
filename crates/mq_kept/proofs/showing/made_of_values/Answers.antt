use Rattle.std.proofs.Common.{ap, subst, sym, ◌∙◌}
use Rattle.std.proofs.lemmas.Result.{IfOk-weaker}
use Rattle.mq_ir.specs.Automatic.{slots_in}
use Rattle.mq_ir.specs.Unfolding.{model_of}
use Rattle.mq_cells.specs.IndexedStores.{input_in, results_of}
use Rattle.mq_cells.specs.Stores.{Results}
use Rattle.mq_auto.specs.Meaning.{HoldsValues, result_with}
use Rattle.mq_kept.specs.declared.kept_view.SharedShape.{SharedShape}
use Rattle.mq_kept.specs.Kept.{IsShared}
use Rattle.mq_kept.proofs.FoundLemmas.{values_made}
use Rattle.mq_kept.proofs.showing.made_of_values.Goals as goal

pub stored_result-made-requires : goal.stored_result-made-requires
stored_result-made-requires c =
    let model = model_of c.args.m.now in
    let kept = c.args.kept.now in
    record {
      few = (subst (IsShared model) (sym c.deref.ensures) c.requires.shape.shared).levelled.few;
      held =
          subst (λ (s : SharedShape). HoldsValues model s.found.shape c.args.p.now.cells (input_in kept.cells) (results_of kept.cells)) (sym c.deref.ensures) c.requires.values;
    }

pub returns : goal.returns
returns c =
    let model = model_of c.args.m.now in
    let p = c.args.p.now in
    let has = c.requires in
    record {
      exact =
          IfOk-weaker c.stored_result-made.result _ _
          (λ r h. values_made model p c.args.kept.now r has (h ∙ ap (λ (s : SharedShape). result_with model p.key s.found.shape (slots_in model s.found.shape p.cells)) c.deref.ensures))
          c.stored_result-made.ensures.exact;
      same = record {
        automatic = has.automatic;
        shape = has.shape;
        values = record {
          given_is = c.stored_result-made.ensures.same_input ∙ has.values.given_is;
          results_are = λ name. ap (λ (f : Results). f name) c.stored_result-made.ensures.same_results ∙ has.values.results_are name;
        };
      };
    }
