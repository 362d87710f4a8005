-- What a change does not reach of the versions keeps what it came to.
use Rattle.std.proofs.Common.{◌≡◌, ◌-◌, Bool, true, false, not, ◌&&◌, ◌||◌, List, [], ◌∷◌, cond, map, Option, Some, None, slice_get, refl, sym, ap, ◌∙◌, ℕ}
use Rattle.std.specs.Cmp.Lexicographic.{pointwise}
use Rattle.std.specs.List.{find, list_any}
use Rattle.std.specs.List.Sorted.{IsStrictlySortedBy}
use Rattle.std.specs.Map.{keys_of}
use Rattle.std.specs.Option.{option_map, option_map_or}
use Rattle.std.specs.Ordering.{is_ne}
use Rattle.std.specs.declared.cmp.Ordering.{Ordering}
use Rattle.std.specs.declared.cmp.Ordering.TheVariants.{Less, Equal, Greater}
use Rattle.std.proofs.lemmas.Bool.{and_parts, or_parts}
use Rattle.mq_values.specs.Order.{cmp_key, cmp_value}
use Rattle.mq_values.specs.OrderTells.{same_value}
use Rattle.mq_ir.specs.declared.query.CellName.{CellName}
use Rattle.mq_ir.specs.declared.query.Look.{Look}
use Rattle.mq_ir.specs.declared.query.Look.TheVariants.{Measure, Presence}
use Rattle.mq_ir.specs.declared.query.PartShape.{PartShape}
use Rattle.mq_ir.specs.declared.query.Rule.{Rule}
use Rattle.mq_ir.specs.declared.query.Slot.TheVariants.{Done}
use Rattle.mq_ir.specs.Affected.{is_in_one}
use Rattle.mq_ir.specs.EachLaws.{Each, all_of}
use Rattle.mq_ir.specs.Histories.{given_slots, node_slot, shape_at}
use Rattle.mq_ir.specs.Keys.{Tuple, is_among}
use Rattle.mq_ir.specs.KeptHistories.{kept_key, kept_slots}
use Rattle.mq_ir.specs.Looks.{leaves_of, looks_of}
use Rattle.mq_ir.specs.Partitions.{Cells}
use Rattle.mq_ir.specs.ReadLaws.{AgreeAt, SamePresence, SameStep}
use Rattle.mq_ir.specs.Reads.{measure_at}
use Rattle.mq_ir.specs.Rounds.{some_look}
use Rattle.mq_ir.specs.Slots.{Slots, cell_slot}
use Rattle.mq_ir.specs.Unfolding.{Model}
use Rattle.mq_ir.specs.VersionLooks.{VersionLink, VersionName, VersionNode, Made, Given, There, is_link_of, is_same_node, is_version_of, links_from, looks_at_node, name_of, resolved, resolved_looks, version_links}
use Rattle.mq_ir.specs.VersionSeeds.{is_version_affected, is_version_seed, looks_differ}
use Rattle.mq_ir.specs.Versions.{Version, versions}
use Rattle.mq_change_laws.specs.KeyLaws.{each_map}
use Rattle.mq_change_laws.specs.NodeLaws.{StepsRead}
use Rattle.mq_change_laws.specs.SoundLaws.{found_has}
use Rattle.mq_version_laws.specs.AffectedVersionLaws.{AreAscending, GoesByLooks, Keeps, LinksGoByLooks, StaysKept, UnaffectedKeep, UnaffectedStayKept}
use Rattle.mq_version_laws.specs.HistoryLaws.{IsWorthItsLooks}
use Rattle.mq_version_laws.specs.KeptLaws.{kept_name}
use Rattle.mq_version_laws.proofs.CellLemmas.{empty_where_absent}
use Rattle.mq_version_laws.proofs.KeptLemmas.{IsKept, kept_are}
use Rattle.mq_version_laws.proofs.LeafLemmas.{over, same_looks}
use Rattle.mq_version_laws.proofs.NameLemmas.{Own, name_is, node_is, once_by, own_names}
use Rattle.mq_version_laws.proofs.ReachedLemmas.{by_looks}
use Rattle.mq_version_laws.proofs.ResolveLemmas.{IsRuled, same_before}
use Rattle.mq_version_laws.proofs.SoundLemmas.{names_once, sets_ascend, versions_ruled}
use Rattle.mq_version_laws.proofs.WorthLemmas.{each_worth}

-- the step of a rule over two shapes that agree at its looks: the contract of `same_looks_make_the_same_step`
abbrev pub StepsSame : Type 0
StepsSame = (model : Model) (shape other : PartShape) (turn : ℕ) (rule : Rule) (target : Tuple) → SameStep model shape other turn rule target

-- ---- what holds of each link of a history
abbrev link_name : VersionLink → VersionName
link_name link = name_of link.version

record IsLink (model : Model) (input : Cells) (link : VersionLink) : Type 0 where
  own : find (is_link_of (link_name link)) (version_links model (keys_of input)) ≡ Some link
  worth : IsWorthItsLooks model input link
  ruled : IsRuled model link.version
  before : Each (IsRuled model) link.earlier
  ascend : IsStrictlySortedBy cmp_key link.version.set
  kept : IsKept model input link.version

link_names : (earlier vs : List Version) → map name_of vs ≡ map link_name (links_from earlier vs)
link_names earlier [] = refl
link_names earlier (v ∷ vs) = ap (λ l. name_of v ∷ l) (link_names (v ∷ earlier) vs)

module _ (model : Model) (input : Cells) (s : IsStrictlySortedBy cmp_key (keys_of input)) where
  abbrev links : List VersionLink
  links = version_links model (keys_of input)

  own_links : Each (Own link_name links) links
  own_links =
      own_names link_name links
      (once_by name_of link_name (versions model (keys_of input)) links (link_names [] (versions model (keys_of input))) (names_once model (keys_of input) s))

  gathered : (vs earlier : List Version) → Each (Own link_name links) (links_from earlier vs)
      → Each (IsWorthItsLooks model input) (links_from earlier vs)
      → Each (IsRuled model) vs → Each (IsRuled model) earlier → Each (λ v. IsStrictlySortedBy cmp_key v.set) vs
      → Each (IsKept model input) vs → Each (IsLink model input) (links_from earlier vs)
  gathered [] earlier o w r e a k = tt
  gathered (v ∷ vs) earlier o w r e a k = (
    record { own = o.0; worth = w.0; ruled = r.0; before = e; ascend = a.0; kept = k.0 },
    gathered vs (v ∷ earlier) o.1 w.1 r.1 (r.0, e) a.1 k.1,
  )

  each_link : Each (IsLink model input) links
  each_link =
      gathered (versions model (keys_of input)) [] own_links (each_worth model input s) (versions_ruled model (keys_of input)) tt (sets_ascend model (keys_of input) s) (kept_are model input s)

-- ---- nodes that look the same
same_nodes : (a b : List VersionNode) → pointwise is_same_node a b ≡ true → a ≡ b
same_nodes [] [] h = refl
same_nodes [] (y ∷ ys) h = cc
same_nodes (x ∷ xs) [] h = cc
same_nodes (x ∷ xs) (y ∷ ys) h =
    let both = and_parts (is_same_node x y) (pointwise is_same_node xs ys) h in
    let first : x ≡ y = node_is x y both.0 in
    let rest : xs ≡ ys = same_nodes xs ys both.1 in
    λ i. first i ∷ rest i

equal_value : (o : Ordering) → is_ne o ≡ false → o ≡ Equal
equal_value Less h = cc
equal_value Equal h = refl
equal_value Greater h = cc

in_neither : (a b : List Tuple) (key : Tuple) → is_in_one a b key ≡ false → is_among a key ≡ is_among b key
in_neither a b key h = by (is_among a key) (is_among b key) h
  where
    by : (x y : Bool) → ((x && not y) || (y && not x)) ≡ false → x ≡ y
    by true true h = refl
    by true false h = cc
    by false true h = cc
    by false false h = refl

module _ (model : Model) (old new : Cells) where
  abbrev reached : VersionNode → Bool
  reached = is_version_affected model old new

  abbrev seed : VersionNode → Bool
  seed = is_version_seed model old new

  -- what is not affected is no seed, and looks at nothing that is affected
  calm : (node : VersionNode) → reached node ≡ false
      → (seed node ≡ false) × (some_look reached (looks_at_node model (keys_of new) node) ≡ false)
  calm node h = or_parts (seed node) (some_look reached (looks_at_node model (keys_of new) node)) (sym (by_looks model old new node) ∙ h)

  given_keeps : (c : CellName) → Keeps model old new (Given c)
  given_keeps c h = by (is_among (keys_of old) c.key) refl (is_among (keys_of new) c.key) refl (calm (Given c) h).0
    where
      differ : Bool
      differ = is_ne (cmp_value (measure_at old c) (measure_at new c))

      by : (x : Bool) → is_among (keys_of old) c.key ≡ x → (y : Bool) → is_among (keys_of new) c.key ≡ y
          → (((x && not y) || (y && not x)) || ((x && y) && differ)) ≡ false → given_slots new c ≡ given_slots old c
      by true e true f g = ap Done (sym (same_value (measure_at old c) (measure_at new c) (equal_value (cmp_value (measure_at old c) (measure_at new c)) g)))
      by true e false f g = cc
      by false e true f g = cc
      by false e false f g = ap Done (empty_where_absent new c.key f c.measure ∙ sym (empty_where_absent old c.key e c.measure))

  -- the cells whose presence is looked at are in both inputs or in neither
  same_presence : (earlier : List Version) (looks : List Look) → list_any reached (map (resolved earlier) looks) ≡ false
      → SamePresence (keys_of old) (keys_of new) looks
  same_presence earlier [] h = tt
  same_presence earlier (Measure c ∷ looks) h = same_presence earlier looks (or_parts (reached (resolved earlier (Measure c))) _ h).1
  same_presence earlier (Presence key ∷ looks) h =
      let both = or_parts (reached (There key)) (list_any reached (map (resolved earlier) looks)) h in
      (in_neither (keys_of old) (keys_of new) key (calm (There key) both.0).0, same_presence earlier looks both.1)

  -- the slots that are looked at stay
  slots_agree : (earlier others : List Version) → ((c : CellName) → Keeps model old new (resolved earlier (Measure c)))
      → (looks : List Look)
      → map (resolved earlier) looks ≡ map (resolved others) looks → list_any reached (map (resolved earlier) looks) ≡ false
      → AgreeAt (λ c. node_slot model new (resolved earlier (Measure c))) (λ c. node_slot model old (resolved others (Measure c))) looks
  slots_agree earlier others keeps [] e h = tt
  slots_agree earlier others keeps (Measure c ∷ looks) e h =
      let both = or_parts (reached (resolved earlier (Measure c))) (list_any reached (map (resolved earlier) looks)) h in
      let first : resolved earlier (Measure c) ≡ resolved others (Measure c) = cc in
      let rest : map (resolved earlier) looks ≡ map (resolved others) looks = cc in
      (keeps c both.0 ∙ ap (node_slot model old) first, slots_agree earlier others keeps looks rest both.1)
  slots_agree earlier others keeps (Presence key ∷ looks) e h =
      let both = or_parts (reached (There key)) (list_any reached (map (resolved earlier) looks)) h in
      let rest : map (resolved earlier) looks ≡ map (resolved others) looks = cc in
      slots_agree earlier others keeps looks rest both.1

  module _ (read : StepsRead) (same : StepsSame) where
    -- a version that stands in both histories, with the same looks of which none is affected
    version_stays : (a b : VersionLink) → IsLink model old a → IsLink model new b → link_name b ≡ link_name a
        → resolved_looks model a ≡ resolved_looks model b
        → list_any reached (resolved_looks model b) ≡ false → ((c : CellName) → Keeps model old new (resolved b.earlier (Measure c)))
        → node_slot model new (Made (link_name b)) ≡ node_slot model old (Made (link_name b))
    version_stays a b is_a is_b named alike none keeps =
        is_b.worth
        ∙ read model (shape_at (keys_of new) b.version) 0 b.version.rule b.version.key slots_b slots_a
        (slots_agree b.earlier a.earlier keeps looks_b (sym moved_looks ∙ ap (map (resolved a.earlier)) one_list) none)
        ∙ sym (same model (shape_at (keys_of old) a.version) (shape_at (keys_of new) b.version) 0 b.version.rule b.version.key
        (same_looks model b.version.key a.version.set b.version.set is_a.ascend is_b.ascend (leaves_of b.version.rule.right) one_list)
        (same_presence a.earlier looks_a (ap (list_any reached) moved_looks ∙ none)) slots_a)
        ∙ (λ i. cell_slot model (shape_at (keys_of old) a.version) 0 (rule i) (key i) slots_a)
        ∙ sym is_a.worth
        ∙ ap (λ n. node_slot model old (Made n)) (sym named)
      where
        key : b.version.key ≡ a.version.key
        key = ap (λ n. n.key) named

        number : b.version.number ≡ a.version.number
        number = ap (λ n. n.number) named

        rule : b.version.rule ≡ a.version.rule
        rule = told (sym is_b.ruled ∙ ap (λ n. slice_get model.part.rules (n - 1)) number ∙ is_a.ruled)
          where
            told : Some b.version.rule ≡ Some a.version.rule → b.version.rule ≡ a.version.rule
            told e = cc

        slots_a : Slots
        slots_a c = node_slot model old (resolved a.earlier (Measure c))

        slots_b : Slots
        slots_b c = node_slot model new (resolved b.earlier (Measure c))

        -- the looks of either, by the rule and the cell of the new one
        looks_a : List Look
        looks_a = looks_of (over model b.version.key a.version.set) b.version.rule.right

        looks_b : List Look
        looks_b = looks_of (over model b.version.key b.version.set) b.version.rule.right

        moved_looks : map (resolved a.earlier) looks_a ≡ map (resolved b.earlier) looks_b
        moved_looks = (λ i. map (resolved a.earlier) (looks_of (over model (key i) a.version.set) (rule i).right)) ∙ alike

        one_list : looks_a ≡ looks_b
        one_list = same_before model a.earlier b.earlier is_a.before is_b.before looks_a looks_b moved_looks

    -- the link of the same name in the old history
    record Stood (b : VersionLink) : Type 0 where
      link : VersionLink
      is : IsLink model old link
      named : link_name b ≡ link_name link
      looks : resolved_looks model link ≡ resolved_looks model b
      none : list_any reached (resolved_looks model b) ≡ false

    module _ (olds : Each (IsLink model old) (version_links model (keys_of old))) where
      stood : (b : VersionLink) → IsLink model new b → reached (Made (link_name b)) ≡ false → Stood b
      stood b is_b h = by (find (is_link_of (link_name b)) (version_links model (keys_of old))) refl
        where
          quiet : (seed (Made (link_name b)) ≡ false) × (some_look reached (looks_at_node model (keys_of new) (Made (link_name b))) ≡ false)
          quiet = calm (Made (link_name b)) h

          looks_new : looks_at_node model (keys_of new) (Made (link_name b)) ≡ Some (resolved_looks model b)
          looks_new = ap (option_map (resolved_looks model)) is_b.own

          differ : (o : Option VersionLink) → find (is_link_of (link_name b)) (version_links model (keys_of old)) ≡ o
              → looks_differ (option_map (resolved_looks model) o) (Some (resolved_looks model b)) ≡ false
          differ o e = (λ i. looks_differ (option_map (resolved_looks model) (sym e i)) (sym looks_new i)) ∙ quiet.0

          agree : (s : Bool) → not s ≡ false → s ≡ true
          agree true e = refl
          agree false e = cc

          by : (o : Option VersionLink) → find (is_link_of (link_name b)) (version_links model (keys_of old)) ≡ o → Stood b
          by None e = let k : true ≡ false = differ None e in cc
          by (Some a) e =
              let found = found_has (IsLink model old) (is_link_of (link_name b)) (version_links model (keys_of old)) olds a e in
              record {
                link = a;
                is = found.0;
                named = name_is (link_name b) (link_name a) found.1;
                looks = same_nodes (resolved_looks model a) (resolved_looks model b) (agree (pointwise is_same_node (resolved_looks model a) (resolved_looks model b)) (differ (Some a) e));
                none = ap (some_look reached) (sym looks_new) ∙ quiet.1;
              }

      link_keeps : (b : VersionLink) → IsLink model new b → ((c : CellName) → Keeps model old new (resolved b.earlier (Measure c)))
          → Keeps model old new (Made (link_name b))
      link_keeps b is_b keeps h = let a = stood b is_b h in version_stays a.link b a.is is_b a.named a.looks a.none keeps

      -- along the order of the assignments
      keep_from : (vs earlier : List Version) → Each (IsLink model new) (links_from earlier vs)
          → ((c : CellName) → Keeps model old new (resolved earlier (Measure c)))
          → Each (λ v. Keeps model old new (Made (name_of v))) vs
      keep_from [] earlier ls keeps = tt
      keep_from (v ∷ vs) earlier ls keeps =
          let here = link_keeps (record { version = v; earlier = earlier }) ls.0 keeps in
          (here, keep_from vs (v ∷ earlier) ls.1 (next here))
        where
          next : Keeps model old new (Made (name_of v)) → (c : CellName) → Keeps model old new (resolved (v ∷ earlier) (Measure c))
          next here c = by (is_version_of c v)
            where
              by : (b : Bool)
                  → Keeps model old new (option_map_or (λ w. Made (name_of w)) (cond b (Some v) (find (is_version_of c) earlier)) (Given c))
              by true = here
              by false = keeps c

      -- so what is kept of it is what was kept
      kept_stays : (b : VersionLink) → IsLink model new b → Keeps model old new (Made (link_name b)) → reached (Made (link_name b)) ≡ false
          → kept_slots model new (kept_name b.version) ≡ kept_slots model old (kept_name b.version)
      kept_stays b is_b keeps h =
          let a = stood b is_b h in
          let name : link_name b ≡ link_name a.link = a.named in
          let rule : Some b.version.rule ≡ Some a.link.version.rule =
          sym is_b.ruled ∙ ap (λ (n : VersionName). slice_get model.part.rules (n.number - 1)) name ∙ a.is.ruled in
          is_b.kept ∙ ap Some (keeps h) ∙ ap (λ n. Some (node_slot model old (Made n))) name ∙ sym a.is.kept
          ∙ ap (kept_slots model old) (sym (λ i. record { key = kept_key (name i); measure = measure_of rule i }))
        where
          measure_of : {x y : Rule} → Some x ≡ Some y → x.measure ≡ y.measure
          measure_of {x} {y} e = let is : x ≡ y = cc in ap (λ (r : Rule). r.measure) is

      kept_from : (vs earlier : List Version) → Each (IsLink model new) (links_from earlier vs)
          → Each (λ v. Keeps model old new (Made (name_of v))) vs
          → Each (StaysKept model old new) vs
      kept_from [] earlier ls keeps = tt
      kept_from (v ∷ vs) earlier ls keeps =
          (kept_stays (record { version = v; earlier = earlier }) ls.0 keeps.0, kept_from vs (v ∷ earlier) ls.1 keeps.1)

each_keep : StepsRead → StepsSame → (model : Model) (old new : Cells) → AreAscending old new
    → Each (λ v. Keeps model old new (Made (name_of v))) (versions model (keys_of new))
each_keep read same model old new ascend =
    keep_from model old new read same (each_link model old ascend.before) (versions model (keys_of new)) [] (each_link model new ascend.after) (given_keeps model old new)

pub unaffected_keep : StepsRead → StepsSame → (model : Model) (old new : Cells) → UnaffectedKeep model old new
unaffected_keep read same model old new ascend =
    all_of (λ v. Keeps model old new (Made (name_of v))) (versions model (keys_of new)) (each_keep read same model old new ascend)

pub unaffected_stay_kept : StepsRead → StepsSame → (model : Model) (old new : Cells) → UnaffectedStayKept model old new
unaffected_stay_kept read same model old new ascend =
    all_of (StaysKept model old new) (versions model (keys_of new))
    (kept_from model old new read same (each_link model old ascend.before) (versions model (keys_of new)) [] (each_link model new ascend.after)
    (each_keep read same model old new ascend))

pub links_by_looks : (model : Model) (old new : Cells) → LinksGoByLooks model old new
links_by_looks model old new s =
    all_of (GoesByLooks model old new) (version_links model (keys_of new))
    (each_map (IsLink model new) (GoesByLooks model old new) told (version_links model (keys_of new)) (each_link model new s))
  where
    told : (link : VersionLink) → IsLink model new link → GoesByLooks model old new link
    told link is =
        by_looks model old new (Made (link_name link))
        ∙ ap (λ o. is_version_seed model old new (Made (link_name link)) || some_look (is_version_affected model old new) (option_map (resolved_looks model) o)) is.own
