use Rattle.std.proofs.Common.{rules, ◌≡◌, ap, sym, subst, ◌∙◌}
use Rattle.mq_cells.specs.Stores.{cell_name}
use Rattle.mq_refs.specs.Sightings.{AreSteady, value_seen}
use Rattle.mq_refs.proofs.SightLemmas.{seen_there}
use Rattle.mq_refs.proofs.seen.SeenWorths.value.Goals as goal

pub returns-in_ok-v-in-Some-clause-exact : goal.returns-in_ok-v-in-Some-clause-exact
returns-in_ok-v-in-Some-clause-exact c =
    let seen = c.as_slice-sightings.result.now in
    let at = c.in-Some.at in
    let name = cell_name c.args.key.now c.args.measure in
    let same : seen ≡ c.args.self.now = search rules in
    c.in_ok-v-in-Some.ensures
    ∙ seen_there seen at c.index-sightings-at.result name (subst AreSteady (sym c.as_slice-sightings.ensures) c.self.invariant) c.in-Some.ensures.found
    (c.in-Some.ensures.named c.index-sightings-at.result)
    ∙ ap (λ s. value_seen s name) same
