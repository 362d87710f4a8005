use Rattle.std.proofs.Common.{List, ap, refl, subst, sym, ◌∙◌}
use Rattle.std.specs.List.{All}
use Rattle.mq_ir.specs.declared.query.PartInput.{PartInput}
use Rattle.mq_sources.specs.References.{cells_of_arrays}
use Rattle.mq_kept.specs.Kept.{IsRight, inputs_of, model_with}
use Rattle.mq_kept.proofs.FollowLemmas.{unsettled_inputs, unsettled_right}
use Rattle.mq_kept.proofs.beginning.unsettled.Goals as goal

pub returns : goal.returns
returns c =
    let found = c.args.found in
    record {
      same = λ part. ap (λ (inputs : List PartInput). (inputs, model_with part found.lists (cells_of_arrays found.refs))) (ap inputs_of c.in_ok-parts.ensures ∙ unsettled_inputs found.inputs);
      right =
          λ part ready.
          let model = model_with part found.lists (cells_of_arrays found.refs) in
          subst (All (IsRight model)) (sym c.in_ok-parts.ensures) (unsettled_right model found.inputs ready);
      lines = refl;
    }
