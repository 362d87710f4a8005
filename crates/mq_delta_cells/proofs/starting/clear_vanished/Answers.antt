use Rattle.std.proofs.Common.{List, None, ap, ◌∙◌}
use Rattle.std.specs.Prelude.{if◌then◌else◌}
use Rattle.std.proofs.lemmas.Result.{on_ok_weaker}
use Rattle.mq_ir.specs.Shape.{Assignment}
use Rattle.mq_delta_cells.specs.Seeds.{is_gone}
use Rattle.mq_delta_cells.proofs.BeginLemmas.{gone_is}
use Rattle.mq_delta_cells.proofs.starting.clear_vanished.Goals as goal

pub returns-in-Some-clause-cleared : goal.returns-in-Some-clause-cleared
returns-in-Some-clause-cleared g c =
    let old = c.args.seeds.now.old.now in
    let rules = c.args.rules.now in
    on_ok_weaker c.clear_gone.result
    (λ cleared d.
    cleared d
    ∙ ap (λ b. if b then None else g.C.Cells.results c.args.cells.now d)
    (ap (λ (xs : List Assignment). is_gone xs c.args.index.now rules d) c.as_slice.ensures ∙ gone_is old c.args.new.now c.args.index.now rules c.requires.rules d)) c.clear_gone.ensures.cleared
