use Rattle.std.proofs.Common.{◌≡◌, List, Some, ap, sym, subst, ◌∙◌, rules}
use Rattle.std.specs.List.{All}
use Rattle.mq_ir.specs.Partitions.{partitions}
use Rattle.mq_ir.specs.Unfolding.{Model}
use Rattle.mq_delta_items.specs.Lines.{items_in}
use Rattle.mq_sources.specs.References.{cells_of_arrays}
use Rattle.mq_kept.specs.Beside.{HaveLinesBeside}
use Rattle.mq_kept.specs.Kept.{IsKept, IsRight, inputs_of, model_with}
use Rattle.mq_kept.specs.Lent.{with_parts}
use Rattle.mq_kept.specs.Renewed.{MayRenew}
use Rattle.mq_kept.proofs.BesideLemmas.{is_kept_beside, lines_before, may_renew_beside, read_before, tell_both}
use Rattle.mq_kept.proofs.CarryLemmas.{found_some}
use Rattle.mq_kept.proofs.FollowLemmas.{same_model}
use Rattle.mq_kept.proofs.beside.view_beside.Goals as goal

pub renewed_beside-requires-clause-may : goal.renewed_beside-requires-clause-may
renewed_beside-requires-clause-may g c =
    let q = c.args.q.now in
    let part = c.args.part.now in
    let view = c.args.view.now in
    let before = g.T.TableSet.tables c.args.before.now in
    let under = g.U.TableSet.tables c.args.under.now in
    let lines = c.in-Some._lines in
    let has : view.lines ≡ Some lines = search rules in
    let are = lines_before before under q part view c.requires.model c.requires.ready c.requires.same c.requires.kept lines has in
    let change = c.in-Some-2.change in
    let found = found_some (HaveLinesBeside under q lines) c.in-Some-2.is (c.in_ok-change.ensures lines are) in
    subst (λ parts. MayRenew part change (inputs_of parts)) (sym c.as_slice-4.ensures)
    (may_renew_beside before under q part view c.requires.model c.requires.ready c.requires.same c.requires.kept lines has change found)

pub returns : goal.returns
returns g c =
    let q = c.args.q.now in
    let part = c.args.part.now in
    let view = c.args.view.now in
    let before = g.T.TableSet.tables c.args.before.now in
    let under = g.U.TableSet.tables c.args.under.now in
    let lines = c.in-Some._lines in
    let has : view.lines ≡ Some lines = search rules in
    let are = lines_before before under q part view c.requires.model c.requires.ready c.requires.same c.requires.kept lines has in
    let change = c.in-Some-2.change in
    let found = found_some (HaveLinesBeside under q lines) c.in-Some-2.is (c.in_ok-change.ensures lines are) in
    let read = read_before before under q part view c.requires.model c.requires.ready c.requires.same c.requires.kept lines has in
    let model = same_model part c.as_slice-2.result.now view.lists (cells_of_arrays c.as_slice-3.result.now) (cells_of_arrays view.refs) c.as_slice-2.ensures
    (ap cells_of_arrays c.as_slice-3.ensures) in
    tell_both (λ lent. inputs_of lent.items ≡ partitions part (items_in found.after)) (λ lent. All (IsRight (model_with part c.as_slice-2.result.now (cells_of_arrays c.as_slice-3.result.now))) lent.items)
    (λ lent. IsKept under q part (with_parts view lent.items)) c.renewed_beside.result
    (λ lent renewed right.
    is_kept_beside before under q part view c.requires.model c.requires.ready c.requires.same c.requires.kept lines has change found lent.items
    (subst (λ (m : Model). All (IsRight m) lent.items) model right) renewed)
    (c.renewed_beside.ensures.renewed (items_in lines) (items_in found.after) (ap inputs_of c.as_slice-4.ensures ∙ read.0) found.items)
    c.renewed_beside.ensures.right
