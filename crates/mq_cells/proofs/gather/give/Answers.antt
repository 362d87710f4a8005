use Rattle.std.proofs.Common.{◌≡◌, Some, rules, sym, subst}
use Rattle.std.proofs.lemmas.Result.{on_ok_weaker}
use Rattle.mq_ir.specs.Keys.{Tuple}
use Rattle.mq_cells.specs.LaneItems.{PlaceDiffers}
use Rattle.mq_cells.proofs.GatherLemmas.{free_now, given_before, given_now}
use Rattle.mq_cells.proofs.gather.give.Goals as goal

pub returns-in-Some-clause-input : goal.returns-in-Some-clause-input
returns-in-Some-clause-input c =
    given_before c.args.cells.now c.add.new.self c.args.given.now c.args.key.now c.args.measures.now c.in_ok-number.number c.add.ensures.grows c.add.ensures.told c.in_ok-number.ensures.found c.requires _
    (sym c.in-Some.ensures)

pub returns-in_ok-copy-in-None-clause-input : goal.returns-in_ok-copy-in-None-clause-input
returns-in_ok-copy-in-None-clause-input c =
    let copy : c.in_ok-copy-in-None.field-0 ≡ c.args.measures.now = search rules in
    on_ok_weaker c.put.result
    (λ differs.
    given_now c.args.cells.now c.add.new.self c.args.given.now c.args.key.now c.args.measures.now c.in_ok-number.number c.add.ensures.grows c.add.ensures.told c.in_ok-number.ensures.found c.requires c.put.new.self
    (sym c.in-None.ensures) (subst (λ (m : Tuple). PlaceDiffers c.args.given.now c.put.new.self c.in_ok-number.number (Some m)) copy differs))
    c.put.ensures.ok

pub returns-in_ok-copy-in-None-clause-free : goal.returns-in_ok-copy-in-None-clause-free
returns-in_ok-copy-in-None-clause-free c =
    on_ok_weaker c.put.result
    (λ differs.
    free_now c.args.cells.now c.add.new.self c.args.given.now c.args.key.now _ c.in_ok-number.number c.add.ensures.grows c.add.ensures.told c.in_ok-number.ensures.found c.requires c.put.new.self differs)
    c.put.ensures.ok
