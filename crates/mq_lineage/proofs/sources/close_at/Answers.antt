use Rattle.std.proofs.Common.{List, ap, ◌∙◌}
use Rattle.std.specs.List.{filter_map}
use Rattle.mq_ir.specs.declared.query.Look.{Look}
use Rattle.mq_ir.specs.Derivations.{measure_of}
use Rattle.mq_ir.specs.Unfolding.{model_of}
use Rattle.std.proofs.lemmas.Result.{on_ok_weaker}
use Rattle.mq_cells.specs.Stores.{name_assigned}
use Rattle.mq_lineage.specs.Held.{is_held}
use Rattle.mq_lineage.proofs.ClosingLemmas.{closes_with, closes_without, looked_over}
use Rattle.mq_lineage.proofs.sources.close_at.Goals as goal

pub returns-then-not-branch-clause-closes : goal.returns-then-not-branch-clause-closes
returns-then-not-branch-clause-closes g c =
    closes_without (model_of c.args.m.now) c.args.s.now (name_assigned c.args.a.now) (is_held c.args.found.now) c.in_ok-has.field-0 c.in_ok-has.ensures c.if-not-branch.true

pub returns-clause-closes : goal.returns-clause-closes
returns-clause-closes g c =
    let model = model_of c.args.m.now in
    let s = c.args.s.now in
    let a = c.args.a.now in
    let is =
    ap (λ (looks : List Look). filter_map measure_of looks) (c.as_slice.ensures ∙ c.in_ok-looks.ensures)
    ∙ looked_over model s a (g.K.CellKeys.set c.args.keys.now) c.requires.keys c.requires.own in
    on_ok_weaker c.add_all.result
    (λ more. closes_with model s (name_assigned a) (filter_map measure_of c.as_slice.result.now) (is_held c.args.found.now) (is_held c.add_all.new.found) c.in_ok-has.field-0
    c.in_ok-has.ensures c.if-not-branch.false is more)
    c.add_all.ensures.more
