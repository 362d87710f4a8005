use Rattle.std.proofs.Common.{◌≡◌, ◌≤◌, List, length, sym, subst, rules}
use Rattle.mq_values.specs.declared.limits.TheConstants.{MAX_BASE_ROWS}
use Rattle.mq_ir.specs.Keys.{Tuple}
use Rattle.mq_ir.specs.Tables.{rows_of}
use Rattle.mq_kept.specs.Beside.{AreItemsOf, IsChangeOfLines}
use Rattle.mq_kept.specs.FollowingLent.{AreExchanged}
use Rattle.mq_tables.specs.PuttingBack.{AreReplaced}
use Rattle.mq_kept.proofs.BesideLemmas.{change_of_lines, tell}
use Rattle.mq_kept.proofs.CarryLemmas.{found_some}
use Rattle.mq_kept.proofs.FollowLentLemmas.{change_of_replaced}
use Rattle.mq_kept.proofs.SourceLemmas.{rows_there}
use Rattle.mq_kept.proofs.following_lent.items_replaced.Goals as goal

pub returns : goal.returns
returns g c =
    let from = c.args.q.now.from in
    let part = c.args.q.now.items in
    let tables = g.T.TableSet.tables c.args.tables.now in
    let table = c.args.old.now.table.now in
    let were = c.args.old.now.were.now in
    let rows = c.in-Some.rows.now in
    let exchange = c.in-Some-2.change in
    let few : length rows ≤ MAX_BASE_ROWS = search rules in
    let there : rows_of tables table ≡ rows = rows_there tables table rows (sym c.in-Some.ensures) in
    let are_exchanged = found_some (AreExchanged were rows) c.in-Some-2.is c.in_ok-change.ensures in
    λ before lines replaced is.
    let changed = change_of_replaced rows were before exchange (subst (AreReplaced 0 were before) there replaced) are_exchanged in
    tell (AreItemsOf from part exchange) (AreItemsOf from part exchange) (IsChangeOfLines from part (rows_of tables table) lines) c.items_of.result
    (λ change are.
    subst (λ (now : List Tuple). IsChangeOfLines from part now lines change) (sym there)
    (change_of_lines from part before rows lines exchange change few is changed are))
    c.items_of.ensures
