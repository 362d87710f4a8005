use Rattle.std.proofs.Common.{rules, ◌≡◌, List, ℕ, length, sym, subst}
use Rattle.mq_ir.specs.BaseRows.{items_of}
use Rattle.mq_ir.specs.Statement.{with_rows}
use Rattle.mq_delta_base.specs.Gathered.{KeptBefore, changed_items}
use Rattle.mq_delta_base.specs.Inverts.{Inverts}
use Rattle.mq_delta_base.proofs.StagedLemmas.{kept_before}
use Rattle.mq_delta_base.proofs.staged_rows.delta_rows.Goals as goal

pub kept_after-requires : goal.kept_after-requires
kept_after-requires c =
    let q = c.args.q.now in
    let s = c.args.staged.now in
    let places = c.in-Some.moves.places in
    let touched = c.in-Some.moves.touched in
    let inverts : Inverts s.origins (length s.rows) places touched = search rules in
    subst (λ (table : List ℕ). KeptBefore q (changed_items q table) places touched c.args.old.now (items_of (with_rows c.args.before.now s.table s.rows) q)) (sym c.table.ensures)
    (kept_before c.args.before.now s c.requires.stands places touched inverts q c.args.old.now c.requires.kept)
