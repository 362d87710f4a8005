use Rattle.std.proofs.Common.{◌≡◌, ◌-◌, Some, slice_get, sym}
use Rattle.std.proofs.lemmas.Result.{on_ok_weaker}
use Rattle.mq_auto.specs.Walks.{model_in}
use Rattle.mq_auto.proofs.WalkLemmas.{put_is}
use Rattle.mq_auto.proofs.walking.assign.Goals as goal

pub returns-clause-put : goal.returns-clause-put
returns-clause-put g c =
    let model = model_in c.args.work.now in
    let a = c.args.assignment.now in
    let r = c.rule_numbered-rule.result.now in
    let there : Some r ≡ slice_get model.part.rules (a.2 - 1) = sym c.rule_numbered-rule.ensures in
    on_ok_weaker c.put.result
    (λ differs rule at. put_is model c.args.work.now.shape.now (g.C.Cells.input c.args.cells.now) (g.C.Cells.results c.args.cells.now) (g.C.Cells.results c.slot.new.cells)
    (g.C.Cells.results c.put.new.self) a r rule c.in_ok-slot.slot c.in_ok-slot.ensures.same_results there c.in_ok-slot.ensures.exact differs at) c.put.ensures.ok
