-- What a map of the sources tells of those that no rule assigns.
use Rattle.std.proofs.Common.{◌≡◌, ℕ, Bool, true, false, not, ◌&&◌, ◌||◌, List, [], ◌∷◌, ◌++◌, cond, map, Option, Some, None, refl, sym, ap, ◌∙◌}
use Rattle.std.specs.Prelude.{is_none, is_some, slice_index_or}
use Rattle.std.specs.BTreeMap.{is_at}
use Rattle.std.specs.List.{All, filter, flat_map, list_any}
use Rattle.std.specs.List.Sorted.{IsStrictlySortedBy}
use Rattle.std.specs.Map.{keys_of, lookup}
use Rattle.std.specs.Option.{option_map_or}
use Rattle.std.specs.Ordering.{is_eq}
use Rattle.std.proofs.lemmas.List.Folds.{list_any-append}
use Rattle.mq_ir.specs.declared.query.CellName.{CellName}
use Rattle.mq_ir.specs.declared.query.Look.TheVariants.{Measure}
use Rattle.mq_ir.specs.declared.query.PartShape.{PartShape}
use Rattle.mq_ir.specs.Automatic.{rule_at}
use Rattle.mq_ir.specs.Derivations.{assigned_names, cmp_name, derived_sources, given_sources, is_among_steps, is_given, is_same_measure, is_source, measures_looked_at, step_of}
use Rattle.mq_ir.specs.EachLaws.{Each, all_of, each_mapped}
use Rattle.mq_ir.specs.Partitions.{Cells}
use Rattle.mq_ir.specs.Unfolding.{Model}
use Rattle.mq_change_laws.specs.KeyLaws.{any_ascending}
use Rattle.mq_derivation_laws.specs.DerivationLaws.{DerivationHasSources}
use Rattle.mq_auto_shape.specs.Edges.{PlacesAre}
use Rattle.mq_lineage.specs.Closing.{HasSourcesOf, name_of}
use Rattle.mq_lineage.specs.Held.{HeldMeasures, is_held, place_in}
use Rattle.mq_lineage.specs.Nodes.{Node, Nodes, cmp_node, is_in}
use Rattle.mq_lineage.specs.Ordered.{cmp_by_round}
use Rattle.mq_lineage.proofs.ClosingLemmas.{unruled_alike}
use Rattle.mq_lineage.proofs.HeldLemmas.{has_place, no_place}
use Rattle.mq_lineage.proofs.NodeLemmas.{at_node, named_itself}
use Rattle.mq_lineage.proofs.OrderLemmas.{name_total}
use Rattle.mq_lineage.proofs.SetLemmas.{among, among_folded, among_kept, one_name, one_set, strict_folded}

abbrev has : List CellName → CellName → Bool
has = among name_total one_name

has_is : (q : CellName) (xs : List CellName) → list_any (is_same_measure q) xs ≡ has xs q
has_is q xs = λ i. list_any (λ x. sym (at_node (q.key, q.measure) (x.key, x.measure)) i) xs

-- the names of nodes that ascend
strict_names : (nodes : List Node) → IsStrictlySortedBy cmp_node nodes → IsStrictlySortedBy cmp_name (map name_of nodes)
unfolding IsStrictlySortedBy
strict_names [] s = tt
strict_names (x ∷ xs) s =
    (each_mapped (λ y. cmp_name (name_of x) y ≡ _) name_of (λ y. cmp_node x y ≡ _) (λ y h. h) xs s.0, strict_names xs s.1)

has_names : (nodes : Nodes) (q : CellName) → has (map name_of (keys_of nodes)) q ≡ is_in nodes q
has_names [] q = refl
has_names (x ∷ xs) q = by (is_eq (cmp_node (q.key, q.measure) x.0)) (has_names xs q)
  where
    by : (b : Bool) → has (map name_of (keys_of xs)) q ≡ is_in xs q
        → (b || has (map name_of (keys_of xs)) q) ≡ is_some (cond b (Some x.1) (lookup (is_at (cmp_node (q.key, q.measure))) xs))
    by true h = refl
    by false h = h

nothing : IsStrictlySortedBy cmp_name []
unfolding IsStrictlySortedBy
nothing = tt

or_none : (a b : Bool) → b ≡ false → (a || b) ≡ a
or_none true b h = refl
or_none false b h = h

and_none : (a b : Bool) → a ≡ false → (a && b) ≡ false
and_none false b h = refl
and_none true b h = cc

lacking : (b : Bool) → true ≡ not b → b ≡ false
lacking true h = cc
lacking false h = refl

both_none : (a b : Bool) → b ≡ false → (a && b) ≡ false
both_none true b h = h
both_none false b h = refl

module _ (model : Model) (shape : PartShape) (target : CellName) (input : Cells)
    (law : (c : CellName) → DerivationHasSources model shape input target c) where
  abbrev given : List CellName
  given = given_sources model shape target

  abbrev derived : List CellName
  derived = derived_sources model shape target

  abbrev no_rule : CellName → Bool
  no_rule c = is_none (rule_at shape (Measure c))

  told : (q : CellName) (xs : List CellName) → is_among_steps (map (step_of model shape input) xs) q ≡ has xs q
  told q [] = refl
  told q (x ∷ xs) = λ i. sym (at_node (q.key, q.measure) (x.key, x.measure)) i || told q xs i

  -- what no rule assigns is not among the others
  not_derived : (q : CellName) → no_rule q ≡ true → has derived q ≡ false
  not_derived q e =
      sym (has_is q derived)
      ∙ any_ascending (cmp_by_round model shape) (is_same_measure q) (filter (is_source model shape target) (assigned_names shape))
      ∙ has_is q (filter (is_source model shape target) (assigned_names shape))
      ∙ among_kept name_total one_name (is_source model shape target) q (assigned_names shape)
      ∙ both_none (is_source model shape target q) (has (assigned_names shape) q)
      (sym (has_is q (assigned_names shape)) ∙ lacking (list_any (is_same_measure q) (assigned_names shape)) (sym e ∙ unruled_alike shape q))

  abbrev looked_at : List CellName
  looked_at = target ∷ flat_map (measures_looked_at model shape) (assigned_names shape)

  given_has : (q : CellName) → has given q ≡ is_given model shape target q
  given_has q = by (no_rule q) refl
    where
      by : (b : Bool) → no_rule q ≡ b → has given q ≡ (no_rule q && is_source model shape target q)
      by true e =
          sym (or_none (has given q) (has derived q) (not_derived q e))
          ∙ sym (list_any-append (λ x. is_eq (cmp_name q x)) given derived)
          ∙ sym (told q (given ++ derived)) ∙ law q
          ∙ ap (λ b. b && is_source model shape target q) (sym e)
      by false e =
          among_folded name_total one_name q (filter (is_given model shape target) looked_at) []
          ∙ or_none (has (filter (is_given model shape target) looked_at) q) false refl
          ∙ among_kept name_total one_name (is_given model shape target) q looked_at
          ∙ and_none (is_given model shape target q) (has looked_at q) (and_none (no_rule q) (is_source model shape target q) e)
          ∙ sym (and_none (no_rule q) (is_source model shape target q) e)

  module _ (set : HeldMeasures) (are : PlacesAre set.places shape.assigned) (sources : HasSourcesOf model shape target (is_held set))
      (apart : (c : CellName) (place : ℕ) → place_in set.places c ≡ Some place → is_in set.given c ≡ false) where
    in_given : (q : CellName) → is_in set.given q ≡ is_given model shape target q
    in_given q = by (place_in set.places q) refl
      where
        by : (o : Option ℕ) → place_in set.places q ≡ o → is_in set.given q ≡ (no_rule q && is_source model shape target q)
        by None e =
            sym (ap (λ o. option_map_or (λ place. slice_index_or set.derived place false) o (is_in set.given q)) e)
            ∙ sources q
            ∙ sym (ap (λ b. b && is_source model shape target q) (ap is_none (no_place shape set.places are q e)))
        by (Some place) e =
            apart q place e ∙ sym (ap (λ b. b && is_source model shape target q) (has_place shape set.places are q place e))

    -- the map has the sources that no rule assigns
    pub given_is : IsStrictlySortedBy cmp_node (keys_of set.given) → map name_of (keys_of set.given) ≡ given
    given_is ascend =
        one_set name_total one_name (map name_of (keys_of set.given)) given
        (strict_names (keys_of set.given) ascend)
        (strict_folded name_total one_name (filter (is_given model shape target) looked_at) [] nothing)
        (λ q. has_names set.given q ∙ in_given q ∙ sym (given_has q))

-- ---- what the map has is assigned by no rule
each_named : (P : CellName → Type 0) (nodes : Nodes) → ((c : CellName) → is_in nodes c ≡ true → P c) → Each P (map name_of (keys_of nodes))
each_named P [] h = tt
each_named P (x ∷ xs) h = (h (name_of x.0) (here (is_eq (cmp_node x.0 x.0)) itself), each_named P xs (λ c e. h c (there c (is_eq (cmp_node (c.key, c.measure) x.0)) e)))
  where
    itself : is_eq (cmp_node x.0 x.0) ≡ true
    itself = at_node x.0 x.0 ∙ named_itself (name_of x.0)

    here : (b : Bool) → b ≡ true → is_some (cond b (Some x.1) (lookup (is_at (cmp_node x.0)) xs)) ≡ true
    here true e = refl
    here false e = cc

    there : (c : CellName) (b : Bool) → is_in xs c ≡ true → is_some (cond b (Some x.1) (lookup (is_at (cmp_node (c.key, c.measure))) xs)) ≡ true
    there c true e = refl
    there c false e = e

pub given_bare : (shape : PartShape) (set : HeldMeasures) → PlacesAre set.places shape.assigned
    → ((c : CellName) (place : ℕ) → place_in set.places c ≡ Some place → is_in set.given c ≡ false)
    → All (λ c. rule_at shape (Measure c) ≡ None) (map name_of (keys_of set.given))
given_bare shape set are apart =
    all_of (λ c. rule_at shape (Measure c) ≡ None) (map name_of (keys_of set.given))
    (each_named (λ c. rule_at shape (Measure c) ≡ None) set.given (λ c e. by c e (place_in set.places c) refl))
  where
    by : (c : CellName) → is_in set.given c ≡ true → (o : Option ℕ) → place_in set.places c ≡ o → rule_at shape (Measure c) ≡ None
    by c e None f = no_place shape set.places are c f
    by c e (Some place) f = let no : true ≡ false = sym e ∙ apart c place f in absurd (cc)
