use Rattle.std.proofs.Common.{ap, subst}
use Rattle.std.specs.List.{All}
use Rattle.mq_ir.specs.Tables.{rows_of}
use Rattle.mq_ir.specs.Unfolding.{Model}
use Rattle.mq_sources.specs.References.{cells_of_arrays}
use Rattle.mq_kept.specs.Beside.{IsChangeOfLines}
use Rattle.mq_kept.specs.Kept.{IsRight}
use Rattle.mq_kept.proofs.CarryLemmas.{found_some}
use Rattle.mq_kept.proofs.FollowLemmas.{same_model}
use Rattle.mq_kept.proofs.FollowLentLemmas.{has_followed, lines_were, may_follow}
use Rattle.mq_kept.proofs.following_lent.followed_by_row.Goals as goal

pub renew_lent-requires-clause-may : goal.renew_lent-requires-clause-may
renew_lent-requires-clause-may g c =
    let q = c.args.q.now in
    let part = c.args.part.now in
    let view = c.args.view.now in
    let now = g.T.TableSet.tables c.args.tables.now in
    let table = c.args.old.now.table.now in
    let were = c.args.old.now.were.now in
    let parts = c.args.parts.now in
    let before = c.requires.lent.before in
    let replaced = c.requires.lent.replaced in
    let lent = c.requires.lent.lent in
    let lines = lines_were table q part before now view parts c.requires.model were replaced lent c.requires.ready c.requires.from c.requires.apart in
    let of = found_some (IsChangeOfLines q.from q.items (rows_of now table) lent.lines) c.in-Some.is (c.in_ok-change.ensures (rows_of before table) lent.lines replaced.rows lines) in
    may_follow table q part before now view parts c.requires.model were replaced lent c.requires.ready c.requires.from c.requires.apart c.in-Some.change of

pub returns : goal.returns
returns g c =
    let q = c.args.q.now in
    let part = c.args.part.now in
    let view = c.args.view.now in
    let now = g.T.TableSet.tables c.args.tables.now in
    let table = c.args.old.now.table.now in
    let were = c.args.old.now.were.now in
    let parts = c.args.parts.now in
    let before = c.requires.lent.before in
    let replaced = c.requires.lent.replaced in
    let lent = c.requires.lent.lent in
    let lines = lines_were table q part before now view parts c.requires.model were replaced lent c.requires.ready c.requires.from c.requires.apart in
    let of = found_some (IsChangeOfLines q.from q.items (rows_of now table) lent.lines) c.in-Some.is (c.in_ok-change.ensures (rows_of before table) lent.lines replaced.rows lines) in
    let model = same_model part c.as_slice.result.now view.lists (cells_of_arrays c.as_slice-2.result.now) (cells_of_arrays view.refs) c.as_slice.ensures
    (ap cells_of_arrays c.as_slice-2.ensures) in
    has_followed table q part before now view parts c.requires.model were replaced lent c.requires.ready c.requires.from c.requires.apart c.in-Some.change of
    c.renew_lent.new.parts (subst (λ (m : Model). All (IsRight m) c.renew_lent.new.parts) model c.renew_lent.ensures.right) c.renew_lent.result
    c.renew_lent.ensures.renewed
