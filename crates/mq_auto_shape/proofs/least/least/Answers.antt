use Rattle.std.proofs.Common.{◌≡◌, ◌+◌, ◌-◌, ◌<◌, length, arith, ◌∙◌}
use Rattle.std.specs.Option.{option_copied}
use Rattle.mq_auto_shape.proofs.GrowthLemmas.{least_more}
use Rattle.mq_auto_shape.proofs.least.least.Goals as goal

pub looking-preserved : goal.looking-preserved
looking-preserved g c =
    let xs = c.args.items.now in
    let n = c.looking.at - 1 in
    let e : n + 1 ≡ c.looking.at = omega (arith, c.looking-test.true) in
    let lt : n < length xs = omega (arith, c.looking-test.true, c.looking.invariant.within) in
    record {
      within = omega (arith, lt);
      found =
          c.sooner-least.ensures
          ∙ least_more g.T.Ord.cmp xs n c.looking.at c.index-items-at.result (option_copied c.looking.least) e lt c.index-items-at.is c.looking.invariant.found;
    }
