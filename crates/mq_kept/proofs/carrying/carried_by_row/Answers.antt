use Rattle.std.proofs.Common.{List, Some, Option, ap, sym, subst, ◌∙◌}
use Rattle.std.specs.List.{All}
use Rattle.mq_ir.specs.Tables.{rows_of}
use Rattle.mq_ir.specs.Unfolding.{Model}
use Rattle.mq_sources.specs.References.{cells_of_arrays}
use Rattle.mq_kept.specs.Kept.{IsRight}
use Rattle.mq_kept.proofs.CarryLemmas.{lines_before, may_renew, stands, found_some}
use Rattle.mq_kept.proofs.FollowLemmas.{same_model}
use Rattle.mq_kept.proofs.carrying.carried_by_row.Goals as goal

pub renewed-requires-clause-right : goal.renewed-requires-clause-right
renewed-requires-clause-right g c =
    let old = c.args.old in
    subst (λ (model : Model). All (IsRight model) old.parts)
    (sym (same_model c.args.part.now c.as_slice.result.now old.lists (cells_of_arrays c.as_slice-2.result.now) (cells_of_arrays old.refs) c.as_slice.ensures
    (ap cells_of_arrays c.as_slice-2.ensures)))
    c.requires.kept.kept.right

pub renewed-requires-clause-may : goal.renewed-requires-clause-may
renewed-requires-clause-may g c =
    let was = c.requires.kept in
    let now = g.T.TableSet.tables c.args.tables.now in
    let lines = lines_before c.args.table.now c.args.q.now c.args.part.now was.before now c.args.old c.requires.model c.requires.ready c.requires.from c.requires.apart was.change.others was.kept c.in-Some.lines c.in-Some.is in
    may_renew c.args.table.now c.args.q.now c.args.part.now was.before now c.args.old c.requires.model c.requires.ready c.requires.from c.requires.apart
    was.change.others was.kept c.in-Some.lines c.in-Some.is c.in-Some-2.followed.lines c.in-Some-2.followed.change
    (found_some _ c.in-Some-2.is (c.in_ok-followed.ensures (rows_of was.before c.args.table.now) was.change.rows lines))

pub returns : goal.returns
returns g c =
    let was = c.requires.kept in
    let now = g.T.TableSet.tables c.args.tables.now in
    let old = c.args.old in
    let lines = lines_before c.args.table.now c.args.q.now c.args.part.now was.before now old c.requires.model c.requires.ready c.requires.from c.requires.apart
    was.change.others was.kept c.in-Some.lines c.in-Some.is in
    stands c.args.table.now c.args.q.now c.args.part.now was.before now old c.requires.model c.requires.ready c.requires.from c.requires.apart
    was.change.others was.kept c.in-Some.lines c.in-Some.is c.in-Some-2.followed.lines c.in-Some-2.followed.change
    (found_some _ c.in-Some-2.is (c.in_ok-followed.ensures (rows_of was.before c.args.table.now) was.change.rows lines)) c.in_ok-parts.parts c.in_ok-parts.fresh
    (subst (λ (model : Model). All (IsRight model) c.in_ok-parts.parts)
    (same_model c.args.part.now c.as_slice.result.now old.lists (cells_of_arrays c.as_slice-2.result.now) (cells_of_arrays old.refs) c.as_slice.ensures
    (ap cells_of_arrays c.as_slice-2.ensures)) c.in_ok-parts.ensures.right)
    (λ before after is change e. c.in_ok-parts.ensures.renewed before after is change e)
