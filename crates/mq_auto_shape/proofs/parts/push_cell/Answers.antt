use Rattle.std.proofs.Common.{◌≡◌, ◌++◌, [], None, ap, refl, sym, ◌∙◌}
use Rattle.std.specs.List.{cons_option}
use Rattle.std.proofs.lemmas.List.{append-nil}
use Rattle.std.proofs.lemmas.Result.{on_ok_weaker}
use Rattle.mq_ir.specs.Keys.{Tuple}
use Rattle.mq_auto_shape.specs.LaneRuns.{numbers_of}
use Rattle.mq_auto_shape.specs.Numbers.{number_at}
use Rattle.mq_auto_shape.proofs.PartLemmas.{run_pushed}
use Rattle.mq_auto_shape.proofs.parts.push_cell.Goals as goal

pub returns-in-Some : goal.returns-in-Some
returns-in-Some c =
    let numbers = c.args.numbers.now in
    let name = c.args.name.now in
    let is = c.in-Some.ensures.run ∙ ap (λ (key : Tuple). cons_option (number_at numbers key name.measure) []) c.as_slice.ensures in
    on_ok_weaker c.push.result (λ h. ap (numbers_of numbers.lanes) h ∙ run_pushed numbers.lanes c.args.runs.now c.in-Some.run' _ is) c.push.ensures.ok

pub returns-in-None : goal.returns-in-None
returns-in-None c =
    let numbers = c.args.numbers.now in
    let name = c.args.name.now in
    let none : number_at numbers name.key name.measure ≡ None = sym (ap (λ (key : Tuple). number_at numbers key name.measure) c.as_slice.ensures) ∙ c.in-None.ensures.none refl in
    sym (ap (λ o. numbers_of numbers.lanes c.args.runs.now ++ cons_option o []) none ∙ append-nil (numbers_of numbers.lanes c.args.runs.now))
