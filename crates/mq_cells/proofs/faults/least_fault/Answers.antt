use Rattle.std.proofs.Common.{◌≡◌, ◌+◌, ◌-◌, ◌<◌, length, ap, ◌∙◌, arith}
use Rattle.std.specs.Option.{option_map}
use Rattle.mq_ir.specs.Shape.{Assignment}
use Rattle.mq_cells.specs.Faults.{least_with, numbered}
use Rattle.mq_cells.proofs.FaultLemmas.{one_sooner}
use Rattle.mq_cells.proofs.faults.least_fault.Goals as goal

pub looking-preserved : goal.looking-preserved
looking-preserved g c =
    let xs = c.args.assigned.now in
    let n = c.looking.at - 1 in
    let e : n + 1 ≡ c.looking.at = omega (arith, c.looking-test.true) in
    let lt : n < length xs = omega (arith, c.looking-test.true, c.looking.invariant.within) in
    record {
      within = omega (arith, lt);
      found =
          c.with_next-least.ensures
          ∙ ap (λ (a : Assignment). least_with (g.H.Held.stands c.args.held.now) (n, a) (option_map numbered c.looking.least)) c.index-assigned-at.is
          ∙ one_sooner (g.H.Held.stands c.args.held.now) xs n c.looking.at c.index-assigned-at.result (option_map numbered c.looking.least) e lt c.looking.invariant.found;
    }
