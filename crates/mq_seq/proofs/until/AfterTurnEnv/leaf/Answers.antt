use Rattle.std.proofs.Common.{ap, subst, ◌∙◌}
use Rattle.std.specs.Map.{keys_of}
use Rattle.mq_values.specs.Answers.{Gives}
use Rattle.mq_ir.specs.Reads.{cell_value, measure_at}
use Rattle.mq_refs.specs.Sites.{site_over}
use Rattle.mq_seq.specs.Tracks.{measure_from}
use Rattle.mq_seq.proofs.UntilLemmas.{leaf_alone, leaf_before}
use Rattle.mq_seq.proofs.until.AfterTurnEnv.leaf.Goals as goal

pub returns-in-Previous-clause-exact : goal.returns-in-Previous-clause-exact
returns-in-Previous-clause-exact c =
    let grid = c.args.self.now.grid.now in
    let site = site_over c.args.self.now.at.now (keys_of grid.track.cells) in
    let before = measure_from grid.track in
    subst (Gives c.cell_value.result)
    (ap (cell_value site before c.in-Previous.measure) c.as_slice.ensures
    ∙ leaf_before site grid.input (measure_at grid.track.cells) before c.args.leaf.now c.in-Previous.measure c.in-Previous.indices c.in-Previous.is)
    c.cell_value.ensures.exact

pub returns-in_default-clause-exact : goal.returns-in_default-clause-exact
returns-in_default-clause-exact c =
    let grid = c.args.self.now.grid.now in
    let site = site_over c.args.self.now.at.now (keys_of grid.track.cells) in
    subst (Gives c.leaf_now.result) (leaf_alone site grid.input (measure_at grid.track.cells) (measure_from grid.track) c.args.leaf.now c.in_default.not-Previous) c.leaf_now.ensures
