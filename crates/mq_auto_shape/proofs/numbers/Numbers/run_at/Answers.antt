use Rattle.std.proofs.Common.{sym, arith, ◌∙◌}
use Rattle.mq_auto_shape.proofs.PlaceLemmas.{place_below, run_is}
use Rattle.mq_auto_shape.proofs.numbers.Numbers.run_at.Goals as goal

pub one_place-requires : goal.one_place-requires
one_place-requires c =
    let below = place_below c.self.inside.cells.now c.args.key.now c.in-Some.place (sym c.place_near.ensures ∙ c.in-Some.is) in
    omega (arith, below, c.keys.ensures.numbered)

pub returns-clause-run : goal.returns-clause-run
returns-clause-run c =
    run_is c.args.self.now c.self.inside.cells.now c.self.inside.lanes c.args.key.now c.args.m c.in-Some.place c.one_place.result c.self.view_is
    (sym c.place_near.ensures ∙ c.in-Some.is) c.one_place.ensures
