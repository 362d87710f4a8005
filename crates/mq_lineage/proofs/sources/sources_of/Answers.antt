use Rattle.std.proofs.Common.{◌<◌, ◌-◌, ℕ, List, length, arith, refl, sym, subst, ◌∙◌}
use Rattle.std.specs.List.{All}
use Rattle.std.proofs.lemmas.List.Elements.{All-get_or}
use Rattle.mq_ir.specs.Unfolding.{model_of}
use Rattle.mq_lineage.specs.Closing.{Closes}
use Rattle.mq_lineage.specs.Held.{AreOwnPlaces, is_held}
use Rattle.mq_lineage.specs.Ordered.{names_at}
use Rattle.mq_lineage.proofs.ClosingLemmas.{rounds_end, rounds_more, rounds_start}
use Rattle.mq_lineage.proofs.HeldLemmas.{places_own}
use Rattle.mq_lineage.proofs.OrderLemmas.{rounds_within}
use Rattle.mq_lineage.proofs.sources.sources_of.Goals as goal

pub new-requires : goal.new-requires
new-requires g c = subst (AreOwnPlaces c.args.places) (sym c.len.ensures) (places_own c.args.s.now c.args.places c.requires.places)

pub close_round-requires : goal.close_round-requires
close_round-requires g c =
    let model = model_of c.args.m.now in
    let s = c.args.s.now in
    let rounds = c.args.rounds.now in
    let left = c.rounds.left in
    let some = c.rounds-test.true in
    let within = c.rounds.invariant.within in
    let round = c.index-rounds-left.result in
    let In : List ℕ → Type 0 = λ (r : List ℕ). All (λ place. place < length s.assigned) r in
    record {
      keys = c.requires.keys;
      own = c.requires.found.own;
      within =
          subst In (sym (c.as_slice.ensures ∙ c.index-rounds-left.is))
          (All-get_or In rounds (left - 1) round (omega (arith, some, within)) (rounds_within model s rounds c.requires.rounds));
    }

pub rounds-init : goal.rounds-init
rounds-init g c =
    rounds_start (model_of c.args.m.now) c.args.s.now c.args.target.now c.args.rounds.now c.args.places (length c.args.rounds.now) c.in_ok-found.found c.add.new.self
    refl c.in_ok-found.ensures.none c.in_ok-found.ensures.places c.in_ok-add.ensures.more c.in_ok-add.ensures.places

pub rounds-preserved : goal.rounds-preserved
rounds-preserved g c =
    let model = model_of c.args.m.now in
    let s = c.args.s.now in
    rounds_more model s c.args.target.now c.args.rounds.now c.args.places c.rounds.left c.index-rounds-left.result c.rounds.found c.close_round.new.found
    c.rounds-test.true c.index-rounds-left.is
    (subst (λ (r : List ℕ). Closes model s (names_at s.assigned r) (is_held c.rounds.found) (is_held c.close_round.new.found)) c.as_slice.ensures c.in_ok-close_round.ensures.closes)
    c.in_ok-close_round.ensures.places c.rounds.invariant

pub returns-clause-sources : goal.returns-clause-sources
returns-clause-sources g c =
    let model = model_of c.args.m.now in
    rounds_end model c.args.s.now c.args.target.now c.args.rounds.now c.args.places c.rounds.left c.rounds.found (omega (arith, c.rounds-test.false))
    c.requires.found c.requires.rounds (c.sources_are_least.ensures model c.args.s.now c.args.target.now) c.rounds.invariant
