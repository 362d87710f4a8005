use Rattle.std.proofs.Common.{◌≡◌, ◌++◌, List, [], ◌∷◌, ap, map, sym, subst, take, take_all, ◌∙◌}
use Rattle.std.specs.List.{All}
use Rattle.mq_kept.specs.declared.kept_view.KeptPart.{KeptPart}
use Rattle.mq_kept.specs.Kept.{IsRight, inputs_of}
use Rattle.mq_kept.proofs.LendLemmas.{inputs_further, right_further}
use Rattle.mq_kept.proofs.lending.lent_parts.Goals as goal

pub loop-part-preserved : goal.loop-part-preserved
loop-part-preserved c =
    let parts = c.args.parts.now in
    let i = c.loop-part.part-index in
    record {
      same =
          ap inputs_of c.in_ok-push.ensures.items
          ∙ inputs_further parts i c.part-item.result c.loop-part.lent.items c.in_ok-lent_part.field-0 c.loop-part-test.true c.part-item.is
          c.in_ok-lent_part.ensures.same c.loop-part.invariant.same;
      right =
          λ model all.
          subst (All (IsRight model)) (sym c.in_ok-push.ensures.items)
          (right_further parts i c.part-item.result c.loop-part.lent.items c.in_ok-lent_part.field-0 c.loop-part-test.true c.part-item.is model all
          (c.in_ok-lent_part.ensures.right model) (c.loop-part.invariant.right model all));
    }

pub returns-clause-same : goal.returns-clause-same
returns-clause-same c = c.loop-part.invariant.same ∙ ap inputs_of (take_all c.loop-part.part-index c.args.parts.now c.loop-part-test.false)
