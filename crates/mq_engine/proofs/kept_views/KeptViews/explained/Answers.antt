use Rattle.std.proofs.Common.{ap, subst}
use Rattle.std.specs.Prelude.{IfSome}
use Rattle.std.specs.Option.{option_copied}
use Rattle.mq_kept.specs.Kept.{IsKept}
use Rattle.mq_engine.proofs.kept_views.KeptViews.explained.Goals as goal

pub explained_kept-requires : goal.explained_kept-requires
explained_kept-requires c =
    let tables = c.args.tables.now in
    let view = c.args.view.now in
    let part = c.args.part.now in
    record {
      right =
          (subst (λ o. IfSome o (IsKept tables view.query part)) (ap option_copied c.in-Some.is)
          (c.fresh.ensures tables c.args.views.now c.requires.standing view c.requires.named part c.requires.model)).right;
    }

pub returns-in-Some : goal.returns-in-Some
returns-in-Some c =
    let tables = c.args.tables.now in
    let view = c.args.view.now in
    let part = c.args.part.now in
    c.explained_kept.ensures tables view.query
    (subst (λ o. IfSome o (IsKept tables view.query part)) (ap option_copied c.in-Some.is)
    (c.fresh.ensures tables c.args.views.now c.requires.standing view c.requires.named part c.requires.model))
