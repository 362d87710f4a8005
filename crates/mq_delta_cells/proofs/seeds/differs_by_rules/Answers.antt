use Rattle.std.proofs.Common.{◌≡◌, ◌||◌, true, false, is_some, sym, ap, ◌∙◌}
use Rattle.std.proofs.lemmas.Result.{IfOk-weaker}
use Rattle.mq_ir.specs.declared.query.Look.TheVariants.{Measure}
use Rattle.mq_ir.specs.Affected.{is_in_one}
use Rattle.mq_ir.specs.Automatic.{rule_at}
use Rattle.mq_cells.specs.Stores.{cell_name}
use Rattle.mq_delta_cells.specs.Seeds.{is_moved}
use Rattle.mq_delta_cells.proofs.DueLemmas.{outside_ruled, outside_unruled}
use Rattle.mq_delta_cells.proofs.seeds.differs_by_rules.Goals as goal

pub returns-then-branch : goal.returns-then-branch
returns-then-branch c =
    let work = c.args.work.now in
    let seeds = work.seeds.now in
    let old = seeds.old.now in
    let new = work.shape.now in
    let name = cell_name c.args.key.now c.args.m in
    let ruled : true ≡ is_some (rule_at new (Measure name)) = sym c.if-branch.true ∙ c.in_ok-is_ruled.ensures ∙ ap is_some (c.requires.rules name) in
    outside_ruled old new seeds.moved.now name (rule_at old (Measure name)) (rule_at new (Measure name)) ruled

pub returns-then-branch-2 : goal.returns-then-branch-2
returns-then-branch-2 c =
    let work = c.args.work.now in
    let seeds = work.seeds.now in
    let old = seeds.old.now in
    let new = work.shape.now in
    let name = cell_name c.args.key.now c.args.m in
    let unruled : false ≡ is_some (rule_at new (Measure name)) = sym c.if-branch.false ∙ c.in_ok-is_ruled.ensures ∙ ap is_some (c.requires.rules name) in
    let was : true ≡ is_some (rule_at old (Measure name)) = sym c.if-branch-2.true ∙ c.in_ok-is_ruled-2.ensures ∙ ap is_some (c.requires.differ.rules name) in
    sym (
    outside_unruled old new seeds.moved.now name (rule_at old (Measure name)) (rule_at new (Measure name)) unruled
    ∙ ap (λ b. b || (is_in_one old.base new.base name.key || is_moved seeds.moved.now name)) (sym was)
    )

pub returns-then-has : goal.returns-then-has
returns-then-has c =
    let work = c.args.work.now in
    let seeds = work.seeds.now in
    let old = seeds.old.now in
    let new = work.shape.now in
    let name = cell_name c.args.key.now c.args.m in
    let unruled : false ≡ is_some (rule_at new (Measure name)) = sym c.if-branch.false ∙ c.in_ok-is_ruled.ensures ∙ ap is_some (c.requires.rules name) in
    let was : false ≡ is_some (rule_at old (Measure name)) = sym c.if-branch-2.false ∙ c.in_ok-is_ruled-2.ensures ∙ ap is_some (c.requires.differ.rules name) in
    let base : true ≡ is_in_one old.base new.base name.key = sym c.if-has.true ∙ c.has.ensures ∙ c.requires.differ.base name.key in
    sym (
    outside_unruled old new seeds.moved.now name (rule_at old (Measure name)) (rule_at new (Measure name)) unruled
    ∙ ap (λ b. b || (is_in_one old.base new.base name.key || is_moved seeds.moved.now name)) (sym was)
    ∙ ap (λ b. b || is_moved seeds.moved.now name) (sym base)
    )

pub returns : goal.returns
returns c =
    let work = c.args.work.now in
    let seeds = work.seeds.now in
    let old = seeds.old.now in
    let new = work.shape.now in
    let name = cell_name c.args.key.now c.args.m in
    let unruled : false ≡ is_some (rule_at new (Measure name)) = sym c.if-branch.false ∙ c.in_ok-is_ruled.ensures ∙ ap is_some (c.requires.rules name) in
    let was : false ≡ is_some (rule_at old (Measure name)) = sym c.if-branch-2.false ∙ c.in_ok-is_ruled-2.ensures ∙ ap is_some (c.requires.differ.rules name) in
    let base : false ≡ is_in_one old.base new.base name.key = sym c.if-has.false ∙ c.has.ensures ∙ c.requires.differ.base name.key in
    IfOk-weaker c.has-2.result _ _
    (λ begins h. h ∙ c.requires.seeds.moved name ∙ sym (
    outside_unruled old new seeds.moved.now name (rule_at old (Measure name)) (rule_at new (Measure name)) unruled
    ∙ ap (λ b. b || (is_in_one old.base new.base name.key || is_moved seeds.moved.now name)) (sym was)
    ∙ ap (λ b. b || is_moved seeds.moved.now name) (sym base)
    )) c.has-2.ensures
