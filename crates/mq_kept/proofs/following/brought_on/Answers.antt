use Rattle.std.proofs.Common.{List, ap, refl, subst, sym}
use Rattle.std.specs.List.{All}
use Rattle.mq_ir.specs.declared.query.PartInput.{PartInput}
use Rattle.mq_ir.specs.Unfolding.{Model}
use Rattle.mq_sources.specs.References.{cells_of_arrays}
use Rattle.mq_kept.specs.Kept.{IsRight, model_with}
use Rattle.mq_kept.proofs.FollowLemmas.{same_model}
use Rattle.mq_kept.proofs.following.brought_on.Goals as goal

pub parts_after-requires-clause-right : goal.parts_after-requires-clause-right
parts_after-requires-clause-right c =
    let found = c.args.found in
    subst (λ (model : Model). All (IsRight model) c.args.parts)
    (sym (same_model c.args.part.now c.as_slice.result.now found.lists (cells_of_arrays c.as_slice-2.result.now) (cells_of_arrays found.refs) c.as_slice.ensures
    (ap cells_of_arrays c.as_slice-2.ensures)))
    c.requires.right

pub returns : goal.returns
returns c =
    let found = c.args.found in
    let model = model_with c.args.part.now found.lists (cells_of_arrays found.refs) in
    record {
      same = ap (λ (inputs : List PartInput). (inputs, model)) c.in_ok-parts.ensures.same;
      right =
          subst (λ (model : Model). All (IsRight model) c.in_ok-parts.parts)
          (same_model c.args.part.now c.as_slice.result.now found.lists (cells_of_arrays c.as_slice-2.result.now) (cells_of_arrays found.refs) c.as_slice.ensures
          (ap cells_of_arrays c.as_slice-2.ensures))
          c.in_ok-parts.ensures.right;
      lines = refl;
    }
