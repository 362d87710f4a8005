use Rattle.std.proofs.Common.{ap, subst}
use Rattle.std.specs.List.{All}
use Rattle.std.proofs.lemmas.Result.{IfOk-weaker}
use Rattle.mq_ir.specs.Unfolding.{Model}
use Rattle.mq_sources.specs.References.{cells_of_arrays}
use Rattle.mq_kept.specs.Kept.{IsRight}
use Rattle.mq_kept.proofs.FollowLemmas.{same_model}
use Rattle.mq_kept.proofs.following.brought.Goals as goal

pub brought_on-requires-clause-right : goal.brought_on-requires-clause-right
brought_on-requires-clause-right c =
    let old = c.args.old in
    let found = c.args.found in
    let told = c.if-has_same_model.true in
    subst (λ (model : Model). All (IsRight model) old.parts)
    (same_model c.args.part.now old.lists found.lists (cells_of_arrays old.refs) (cells_of_arrays found.refs) (c.has_same_model.ensures.lists told)
    (ap cells_of_arrays (c.has_same_model.ensures.refs told)))
    c.requires.right

pub returns-else-has_same_model : goal.returns-else-has_same_model
returns-else-has_same_model c =
    record {
      same = IfOk-weaker c.unsettled.result _ _ (λ view h. h c.args.part.now) c.unsettled.ensures.same;
      right = c.unsettled.ensures.right c.args.part.now c.requires.ready;
      lines = c.unsettled.ensures.lines;
    }
