use Rattle.std.proofs.Common.{ap, sym, ◌∙◌}
use Rattle.mq_ir.specs.declared.query.Derivation.{Derivation}
use Rattle.mq_ir.specs.Unfolding.{model_of}
use Rattle.mq_answers.proofs.ExplainLemmas.{no_cell_told, steps_told}
use Rattle.mq_answers.proofs.KeptExplainLemmas.{levelled_kept, shape_kept, values_kept}
use Rattle.mq_answers.proofs.explaining_kept.explained_by.Goals as goal

pub derive_lent-requires : goal.derive_lent-requires
derive_lent-requires c =
    levelled_kept (model_of c.args.m.now) c.args.p.now c.args.values.now c.requires c.deref.result.now c.deref.ensures

pub accepted-requires : goal.accepted-requires
accepted-requires c =
    let model = model_of c.args.m.now in
    let p = c.args.p.now in
    let kept = c.args.values.now in
    let shape = c.deref.result.now in
    c.in_ok-told.ensures.accepted p (values_kept model p kept c.requires shape c.deref.ensures) (shape_kept model p kept c.requires shape c.deref.ensures)

pub returns : goal.returns
returns c =
    let model = model_of c.args.m.now in
    let p = c.args.p.now in
    let kept = c.args.values.now in
    let shape = c.deref.result.now in
    steps_told model p shape.found.shape c.args.cell.now (shape_kept model p kept c.requires shape c.deref.ensures) c.in_ok-steps.steps
    (sym c.is_cell.ensures ∙ c.if-not-is_cell.false)
    (ap (λ (d : Derivation). d.steps) c.in_ok-steps.ensures ∙ c.in_ok-told.ensures.exact p.cells (values_kept model p kept c.requires shape c.deref.ensures))

pub returns-then-not-is_cell : goal.returns-then-not-is_cell
returns-then-not-is_cell c =
    let model = model_of c.args.m.now in
    let p = c.args.p.now in
    let shape = c.deref.result.now in
    no_cell_told model p shape.found.shape c.args.cell.now (shape_kept model p c.args.values.now c.requires shape c.deref.ensures)
    (sym c.is_cell.ensures ∙ c.if-not-is_cell.true)
