use Rattle.std.proofs.Common.{◌≡◌, ◌≤◌, length, rules}
use Rattle.mq_values.specs.declared.limits.TheConstants.{MAX_BASE_ROWS}
use Rattle.mq_kept.specs.Beside.{AreItemsOf, IsChangeOfLines}
use Rattle.mq_kept.proofs.BesideLemmas.{change_of_lines, tell}
use Rattle.mq_kept.proofs.CarryLemmas.{found_some}
use Rattle.mq_kept.proofs.beside.items_between.Goals as goal

pub returns : goal.returns
returns c =
    let from = c.args.from.now in
    let part = c.args.part.now in
    let new = c.args.new.now in
    let few : length new ≤ MAX_BASE_ROWS = search rules in
    λ lines is.
    tell (AreItemsOf from part c.in-Some.rows) (AreItemsOf from part c.in-Some.rows) (IsChangeOfLines from part new lines) c.items_of.result
    (λ change are. change_of_lines from part c.args.old.now new lines c.in-Some.rows change few is (found_some _ c.in-Some.is c.in_ok-rows.ensures) are)
    c.items_of.ensures
