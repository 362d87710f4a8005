use Rattle.std.proofs.Common.{◌≡◌, sym, subst, ap, ◌∙◌}
use Rattle.mq_ir.specs.BaseRows.{items_of}
use Rattle.mq_join.specs.Kept.{PlaceRows}
use Rattle.mq_delta_base.specs.Gathered.{Gathered}
use Rattle.mq_delta_base.proofs.GatherLemmas.{gathered_first}
use Rattle.mq_delta_base.proofs.JoinedLemmas.{changed_long, next_gathered, old_long}
use Rattle.mq_delta_base.proofs.delta.gathered.Goals as goal

pub survivors-requires : goal.survivors-requires
survivors-requires g c =
    old_long c.args.q.now c.args.changed.now c.args.moves.now.places c.args.moves.now.touched c.args.old.now (items_of (g.T.TableSet.tables c.args.after.now) c.args.q.now) c.requires

pub items-init : goal.items-init
items-init g c =
    let news = items_of (g.T.TableSet.tables c.args.after.now) c.args.q.now in
    record {
      wide = ap (λ (p : PlaceRows). p.width) c.in_ok-rows.ensures;
      gathered = subst (λ (p : PlaceRows). Gathered c.args.q.now c.args.changed.now c.args.moves.now.places c.args.moves.now.touched c.args.old.now news 0 p.rows) (sym c.in_ok-rows.ensures)
          (gathered_first c.args.q.now c.args.changed.now c.args.moves.now.places c.args.moves.now.touched c.args.old.now news c.requires);
    }

pub with_item-requires : goal.with_item-requires
with_item-requires g c =
    c.items.invariant.wide ∙ changed_long (g.T.TableSet.tables c.args.after.now) c.args.q.now c.args.changed.now c.args.moves.now.places c.args.moves.now.touched c.args.old.now c.requires

pub items-preserved : goal.items-preserved
items-preserved g c =
    let news = items_of (g.T.TableSet.tables c.args.after.now) c.args.q.now in
    let r = next_gathered c.args.q.now c.args.changed.now c.args.moves.now.places c.args.moves.now.touched c.args.old.now news c.requires c.items.item c.items.rows c.in_ok-rows-2.rows
    c.in_ok-rows-2.ensures.touched c.in_ok-rows-2.ensures.same c.items.invariant.gathered in
    record { wide = r.0 ∙ c.items.invariant.wide; gathered = r.1 }
