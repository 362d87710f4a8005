use Rattle.std.proofs.Common.{◌≡◌, true, is_some, sym, ap, ◌∙◌}
use Rattle.mq_cells.specs.Stores.{cell_name}
use Rattle.mq_delta_cells.specs.Seeds.{is_moved}
use Rattle.mq_delta_cells.proofs.DueLemmas.{outside_moved}
use Rattle.mq_delta_cells.proofs.seeds.moves_at.Goals as goal

pub returns-in_ok-is_ruled : goal.returns-in_ok-is_ruled
returns-in_ok-is_ruled c =
    let work = c.args.work.now in
    let seeds = work.seeds.now in
    let name = cell_name c.args.key.now c.args.m in
    let moved : is_moved seeds.moved.now name ≡ true = sym (c.requires.seeds.moved name) ∙ sym c.in_ok-has.ensures ∙ c.if-branch.true in
    outside_moved seeds.old.now work.shape.now seeds.moved.now c.requires.same name c.in_ok-is_ruled.field-0 moved (c.in_ok-is_ruled.ensures ∙ ap is_some (c.requires.rules name))
