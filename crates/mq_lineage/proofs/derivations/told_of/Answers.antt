use Rattle.std.proofs.Common.{◌≡◌, ℕ, List, None, [], sym, subst, ap, ◌∙◌}
use Rattle.std.specs.List.{All}
use Rattle.std.proofs.lemmas.Result.{IfOk-weaker}
use Rattle.mq_ir.specs.declared.query.CellName.{CellName}
use Rattle.mq_ir.specs.declared.query.Look.TheVariants.{Measure}
use Rattle.mq_ir.specs.Automatic.{rule_at}
use Rattle.mq_ir.specs.Keys.{Tuple}
use Rattle.mq_ir.specs.Unfolding.{model_of}
use Rattle.mq_auto_shape.specs.Edges.{PlacesAre}
use Rattle.mq_auto_shape.specs.Found.{AreRoundsOf, AreThere}
use Rattle.mq_auto_shape.specs.Numbers.{Numbered}
use Rattle.mq_lineage.specs.Ordered.{AreWithin, names_in}
use Rattle.mq_lineage.specs.Told.{Told}
use Rattle.mq_lineage.proofs.DeriveLemmas.{told_is}
use Rattle.mq_lineage.proofs.GivenLemmas.{given_bare}
use Rattle.mq_lineage.proofs.OrderLemmas.{ordered_is, rounds_within}
use Rattle.mq_lineage.proofs.derivations.told_of.Goals as goal

pub places_of-requires : goal.places_of-requires
places_of-requires c = subst (λ (keys : List Tuple). AreThere keys c.args.s.now.assigned) (sym c.requires.cells) c.requires.found.there

pub sources_of-requires : goal.sources_of-requires
sources_of-requires c = record {
  keys = c.requires.cells;
  found = c.requires.found;
  rounds = subst (λ (rounds : List (List ℕ)). AreRoundsOf (model_of c.args.m.now) c.args.s.now rounds) (sym c.as_slice-rounds.ensures) c.requires.rounds;
  places = c.in_ok-places.ensures.places;
}

pub told_in-requires : goal.told_in-requires
told_in-requires c =
    let s = c.args.s.now in
    let are = subst (λ (places : Numbered). PlacesAre places s.assigned) (sym c.in_ok-sources.ensures.places) c.in_ok-places.ensures.places in
    record {
      own = c.requires.found.own;
      within =
          subst (λ (rounds : List (List ℕ)). AreWithin s.assigned rounds) (sym c.as_slice-rounds.ensures)
          (rounds_within (model_of c.args.m.now) s c.args.found.now.leveled.rounds c.requires.rounds);
      bare =
          subst (λ (names : List CellName). All (λ c. rule_at s (Measure c) ≡ None) names) (sym (c.as_slice.ensures ∙ c.in_ok-given.ensures.names))
          (given_bare s c.in_ok-sources.sources are c.in_ok-given.ensures.apart);
    }

pub returns : goal.returns
returns c =
    let model = model_of c.args.m.now in
    let s = c.args.s.now in
    let target = c.args.target.now in
    let are = subst (λ (places : Numbered). PlacesAre places s.assigned) (sym c.in_ok-sources.ensures.places) c.in_ok-places.ensures.places in
    let ordered = ap (λ (rounds : List (List ℕ)). names_in s.assigned rounds) c.as_slice-rounds.ensures ∙ ordered_is model s c.requires.found c.args.found.now.leveled.rounds c.requires.rounds in
    IfOk-weaker c.told_in.result _ _
    (λ (told : List Told) is.
    told_is model s target (c.derivations_have_the_sources.ensures model s [] target) c.in_ok-sources.sources are c.in_ok-sources.ensures.sources c.in_ok-given.ensures.apart c.in_ok-given.ensures.ascend
    told c.as_slice.result.now (names_in s.assigned c.as_slice-rounds.result.now) (c.as_slice.ensures ∙ c.in_ok-given.ensures.names) ordered is)
    c.told_in.ensures
