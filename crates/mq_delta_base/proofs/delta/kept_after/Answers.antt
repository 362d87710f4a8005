use Rattle.std.proofs.Common.{◌≡◌, Bool, List, sym, subst, ◌∙◌}
use Rattle.mq_ir.specs.BaseRows.{items_of}
use Rattle.mq_delta_base.specs.Gathered.{KeptBefore, changed_items}
use Rattle.mq_delta_base.proofs.JoinedLemmas.{all_gathered}
use Rattle.mq_delta_base.proofs.delta.kept_after.Goals as goal

pub returns-in-Ok : goal.returns-in-Ok
returns-in-Ok g c =
    let q = c.args.q.now in
    let places = c.args.moves.now.places in
    let touched = c.args.moves.now.touched in
    let news = items_of (g.T.TableSet.tables c.args.after.now) q in
    let e : c.as_slice.result.now ≡ changed_items q c.args.table.now = c.as_slice.ensures.value ∙ c.in_ok-changed.ensures in
    let before = subst (λ (changed : List Bool). KeptBefore q changed places touched c.args.old.now news) (sym e) c.requires in
    c.limited.ensures ∙ all_gathered q c.as_slice.result.now places touched c.args.old.now news before c.in-Ok.rows.rows c.in-Ok.ensures
