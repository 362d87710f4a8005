use Rattle.std.proofs.Common.{◌-◌, arith, get_or, length, refl, sym}
use Rattle.std.proofs.lemmas.Grind.{get_or_default_zero}
use Rattle.mq_ir.specs.Unfolding.{model_of}
use Rattle.mq_lineage.proofs.ClosingLemmas.{round_end, round_more, round_start}
use Rattle.mq_lineage.proofs.sources.close_round.Goals as goal

pub places-init : goal.places-init
places-init g c = round_start (model_of c.args.m.now) c.args.s.now c.args.round.now c.args.found.now (length c.args.round.now) refl

pub places-preserved : goal.places-preserved
places-preserved g c =
    round_more (model_of c.args.m.now) c.args.s.now c.args.round.now c.args.found.now c.places.left (get_or c.args.round.now (c.places.left - 1) 0) c.assigned_at-a.result.now c.places.found c.close_at.new.found
    c.places-test.true (sym (get_or_default_zero c.args.round.now (c.places.left - 1) (get_or c.args.round.now (c.places.left - 1) 0) (omega (arith, c.places-test.true, c.places.invariant.within)))) c.assigned_at-a.ensures.there c.in_ok-close_at.ensures.closes c.in_ok-close_at.ensures.places c.places.invariant

pub returns-clause-closes : goal.returns-clause-closes
returns-clause-closes g c =
    round_end (model_of c.args.m.now) c.args.s.now c.args.round.now c.args.found.now c.places.left c.places.found (omega (arith, c.places-test.false)) c.places.invariant
