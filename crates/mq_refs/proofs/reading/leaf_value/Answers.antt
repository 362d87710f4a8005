use Rattle.std.proofs.Common.{sym, subst, ap, ◌∙◌}
use Rattle.mq_values.specs.Answers.{Gives}
use Rattle.mq_ir.specs.declared.expression.Leaf.{out-Leaf}
use Rattle.mq_ir.specs.declared.expression.Leaf.TheVariants as leaf
use Rattle.mq_ir.specs.Reads.{cell_value, not_null, presence, read_layer, reference_cell}
use Rattle.mq_refs.specs.Sites.{site_of, site_over}
use Rattle.mq_refs.proofs.SiteLemmas.{cell_over, not_null_over, presence_over, reference_over}
use Rattle.mq_refs.proofs.reading.leaf_value.Goals as goal

pub returns-in-Cell-clause-exact : goal.returns-in-Cell-clause-exact
returns-in-Cell-clause-exact g c =
    let at = c.args.at.now in
    let set = g.K.CellKeys.set c.args.keys.now in
    let base = g.K.CellKeys.base c.args.keys.now in
    let now = g.W.Worths.worth c.args.worths.now in
    subst (Gives c.cell_value.result)
    (ap (cell_value (site_of at) now c.in-Cell.measure) c.as_slice.ensures
    ∙ cell_over at set now c.in-Cell.measure c.in-Cell.indices
    ∙ ap (read_layer (site_over at set) base now) (sym (leaf.outs-Cell c.in-Cell.measure c.in-Cell.indices) ∙ sym (ap out-Leaf c.in-Cell.is)))
    c.cell_value.ensures.exact

pub returns-in-RefCell-clause-exact : goal.returns-in-RefCell-clause-exact
returns-in-RefCell-clause-exact g c =
    let at = c.args.at.now in
    let set = g.K.CellKeys.set c.args.keys.now in
    let base = g.K.CellKeys.base c.args.keys.now in
    let now = g.W.Worths.worth c.args.worths.now in
    subst (Gives c.reference_cell.result)
    (ap (reference_cell (site_of at) c.in-RefCell.r c.in-RefCell.measure) c.as_slice-in-RefCell.ensures
    ∙ reference_over at set c.in-RefCell.r c.in-RefCell.measure c.in-RefCell.indices
    ∙ ap (read_layer (site_over at set) base now) (sym (leaf.outs-RefCell c.in-RefCell.r c.in-RefCell.measure c.in-RefCell.indices) ∙ sym (ap out-Leaf c.in-RefCell.is)))
    c.reference_cell.ensures

pub returns-in-Present-clause-exact : goal.returns-in-Present-clause-exact
returns-in-Present-clause-exact g c =
    let at = c.args.at.now in
    let set = g.K.CellKeys.set c.args.keys.now in
    let base = g.K.CellKeys.base c.args.keys.now in
    let now = g.W.Worths.worth c.args.worths.now in
    subst (Gives c.presence.result)
    (ap (presence (site_of at) base) c.as_slice-in-Present.ensures
    ∙ presence_over at set base c.in-Present.indices
    ∙ ap (read_layer (site_over at set) base now) (sym (leaf.outs-Present c.in-Present.indices) ∙ sym (ap out-Leaf c.in-Present.is)))
    c.presence.ensures

pub returns-in-NotNull-clause-exact : goal.returns-in-NotNull-clause-exact
returns-in-NotNull-clause-exact g c =
    let at = c.args.at.now in
    let set = g.K.CellKeys.set c.args.keys.now in
    let base = g.K.CellKeys.base c.args.keys.now in
    let now = g.W.Worths.worth c.args.worths.now in
    subst (Gives c.not_null.result)
    (ap (not_null (site_of at) now c.in-NotNull.measure) c.as_slice-in-NotNull.ensures
    ∙ not_null_over at set now c.in-NotNull.measure c.in-NotNull.indices
    ∙ ap (read_layer (site_over at set) base now) (sym (leaf.outs-NotNull c.in-NotNull.measure c.in-NotNull.indices) ∙ sym (ap out-Leaf c.in-NotNull.is)))
    c.not_null.ensures.exact
