-- A set that takes in what its measures look at, from the last round to the first, has the sources.
use Rattle.std.proofs.Common.{◌≡◌, ℕ, zero, suc, ◌+◌, ◌-◌, ◌<◌, ◌≤◌, Bool, true, false, not, ◌&&◌, ◌||◌, List, [], ◌∷◌, ◌++◌, cond, drop, get_or, length, map, Option, Some, None, slice_get, Less, refl, sym, ap, subst, ◌∙◌, arith, inl, inr}
use Rattle.std.specs.Prelude.{is_none}
use Rattle.std.specs.Cmp.{nat_cmp_is}
use Rattle.std.specs.List.{filter_map, find, list_all, list_any}
use Rattle.std.specs.Option.{option_and_then, option_map, option_map_or}
use Rattle.std.specs.Ordering.{is_lt, ordering_then}
use Rattle.std.proofs.lemmas.Bool.{and_from, and_parts, or_cases, or_left, or_right}
use Rattle.std.proofs.lemmas.List.{drop_all}
use Rattle.mq_ir.specs.declared.query.CellName.{CellName}
use Rattle.mq_ir.specs.declared.query.Look.{Look}
use Rattle.mq_ir.specs.declared.query.Look.TheVariants.{Measure, Presence}
use Rattle.mq_ir.specs.declared.query.PartShape.{PartShape}
use Rattle.mq_ir.specs.declared.query.Rule.{Rule}
use Rattle.mq_ir.specs.Affected.{looks_or_none}
use Rattle.mq_ir.specs.Automatic.{cycle_in, node_looks, round_count, rule_at}
use Rattle.mq_ir.specs.Derivations.{assigned_names, cmp_name, is_same_measure, is_source, measure_of, measures_looked_at, round_of}
use Rattle.mq_ir.specs.EachLaws.{Each}
use Rattle.mq_ir.specs.Keys.{Tuple}
use Rattle.mq_ir.specs.Looks.{looks_of}
use Rattle.mq_ir.specs.Rising.{Low, Rising}
use Rattle.mq_ir.specs.Rounds.{every_look, levelled}
use Rattle.mq_ir.specs.Shape.{Assignment, assigns}
use Rattle.mq_ir.specs.Slots.{site_in}
use Rattle.mq_ir.specs.SortLaws.{rising_ascending}
use Rattle.mq_ir.specs.Unfolding.{Model}
use Rattle.mq_cells.specs.Stores.{name_assigned}
use Rattle.mq_refs.specs.Sites.{site_with}
use Rattle.mq_change_laws.specs.CycleLaws.{all_levelled}
use Rattle.mq_change_laws.specs.KeyLaws.{any_ascending}
use Rattle.mq_change_laws.specs.NodeLaws.{looked}
use Rattle.mq_change_laws.specs.ReachLaws.{told_alike}
use Rattle.mq_derivation_laws.specs.SourceLaws.{AreLeastSources}
use Rattle.mq_auto_shape.specs.Edges.{looks_by}
use Rattle.mq_auto_shape.specs.Found.{AreRoundsOf}
use Rattle.mq_auto_shape.specs.Numbers.{Numbered}
use Rattle.mq_lineage.specs.Closing.{Closes, HasMore, HasOneMore, HasSourcesOf, looks_at, with_all_looks, with_looks}
use Rattle.mq_lineage.specs.Found.{IsFound}
use Rattle.mq_lineage.specs.Held.{HeldMeasures, is_held}
use Rattle.mq_lineage.specs.Ordered.{by_rounds, cmp_by_round, names_at, names_in}
use Rattle.mq_lineage.proofs.LevelLemmas.{level, round_is, round_within}
use Rattle.mq_lineage.proofs.NodeLemmas.{named_itself, named_same}
use Rattle.mq_lineage.proofs.OrderLemmas.{names_next, order_total, ordered_is, round_next}

-- ---- names among others
all_at : (p : CellName → Bool) (m : CellName) (xs : List CellName) → list_all p xs ≡ true → list_any (is_same_measure m) xs ≡ true → p m ≡ true
all_at p m [] a h = cc
all_at p m (x ∷ xs) a h =
    let both = and_parts (p x) (list_all p xs) a in
    elim (or_cases (is_same_measure m x) (list_any (is_same_measure m) xs) h) [
      | inl e ↦ ap p (named_same m x e) ∙ both.0
      | inr l ↦ all_at p m xs both.1 l
    ]

all_from : (p : CellName → Bool) (xs : List CellName) → ((m : CellName) → list_any (is_same_measure m) xs ≡ true → p m ≡ true) → list_all p xs ≡ true
all_from p [] h = refl
all_from p (x ∷ xs) h =
    and_from (p x) (list_all p xs) (h x (or_left (is_same_measure x x) (list_any (is_same_measure x) xs) (named_itself x)))
    (all_from p xs (λ m l. h m (or_right (is_same_measure m x) (list_any (is_same_measure m) xs) l)))

each_at : (P : CellName → Type 0) (m : CellName) (xs : List CellName) → Each P xs → list_any (is_same_measure m) xs ≡ true → P m
each_at P m [] a h = cc
each_at P m (x ∷ xs) a h =
    elim (or_cases (is_same_measure m x) (list_any (is_same_measure m) xs) h) [
      | inl e ↦ subst P (sym (named_same m x e)) a.0
      | inr l ↦ each_at P m xs a.1 l
    ]

found_alike : (c : CellName) (xs : List Assignment)
    → is_none (option_map (λ a. a.2) (find (assigns c.measure c.key) xs)) ≡ not (list_any (is_same_measure c) (map name_assigned xs))
found_alike c [] = refl
found_alike c (x ∷ xs) = by (is_same_measure c (name_assigned x)) (found_alike c xs)
  where
    by : (b : Bool) → is_none (option_map (λ a. a.2) (find (assigns c.measure c.key) xs)) ≡ not (list_any (is_same_measure c) (map name_assigned xs))
        → is_none (option_map (λ a. a.2) (cond b (Some x) (find (assigns c.measure c.key) xs))) ≡ not (b || list_any (is_same_measure c) (map name_assigned xs))
    by true h = refl
    by false h = h

-- a measure has no rule exactly where it is not among the assigned ones
pub unruled_alike : (shape : PartShape) (c : CellName) → is_none (rule_at shape (Measure c)) ≡ not (list_any (is_same_measure c) (assigned_names shape))
unruled_alike shape c = found_alike c shape.assigned

taken : (b : Bool) → false ≡ not b → b ≡ true
taken true h = refl
taken false h = cc

absorbed : (a b : Bool) → (a || (a && b)) ≡ true → a ≡ true
absorbed true b h = refl
absorbed false b h = h

module _ (model : Model) (shape : PartShape) where
  -- what no rule assigns looks at nothing
  nothing_looked : (c m : CellName) → rule_at shape (Measure c) ≡ None → looks_at model shape c m ≡ false
  nothing_looked c m h =
      ap (λ o. list_any (is_same_measure m) (filter_map measure_of (looks_or_none o)))
      (ap (λ o. looked model shape (Measure c) (option_and_then (λ number. slice_get model.part.rules (number - 1)) o)) h)

  -- a measure among looks that are levelled is levelled
  look_level : (n : ℕ) (m : CellName) (looks : List Look) → list_all (levelled (node_looks model shape) n) looks ≡ true
      → list_any (is_same_measure m) (filter_map measure_of looks) ≡ true → level model shape n m ≡ true
  look_level n m [] a h = cc
  look_level n m (Measure c ∷ looks) a h =
      let both = and_parts (level model shape n c) (list_all (levelled (node_looks model shape) n) looks) a in
      elim (or_cases (is_same_measure m c) (list_any (is_same_measure m) (filter_map measure_of looks)) h) [
        | inl e ↦ ap (level model shape n) (named_same m c e) ∙ both.0
        | inr l ↦ look_level n m looks both.1 l
      ]
  look_level n m (Presence key ∷ looks) a h =
      look_level n m looks (and_parts (levelled (node_looks model shape) n (Presence key)) (list_all (levelled (node_looks model shape) n) looks) a).1 h

  -- the round of a measure that is levelled in the end
  first_round : (n : ℕ) (c : CellName) → level model shape n c ≡ true → level model shape 0 c ≡ false
      → (k : ℕ) × (level model shape (suc k) c ≡ true) × (level model shape k c ≡ false)
  first_round zero c h none = let k : true ≡ false = sym h ∙ none in cc
  first_round (suc n) c h none = by (level model shape n c) refl (first_round n c)
    where
      by : (b : Bool) → level model shape n c ≡ b
          → (level model shape n c ≡ true → level model shape 0 c ≡ false → (k : ℕ) × (level model shape (suc k) c ≡ true) × (level model shape k c ≡ false))
          → (k : ℕ) × (level model shape (suc k) c ≡ true) × (level model shape k c ≡ false)
      by true e rest = rest e none
      by false e rest = (n, h, e)

  module _ (none : cycle_in model shape ≡ None) where
    -- what a measure looks at is of an earlier round
    earlier : (c m : CellName) → looks_at model shape c m ≡ true → round_of model shape m < round_of model shape c
    earlier c m h = by (node_looks model shape (Measure c)) refl
      where
        by : (o : Option (List Look)) → node_looks model shape (Measure c) ≡ o → round_of model shape m < round_of model shape c
        by None e =
            let k : false ≡ true = sym (ap (λ o. list_any (is_same_measure m) (filter_map measure_of (looks_or_none o))) e) ∙ h in
            absurd (cc)
        by (Some looks) e =
            let first = first_round (round_count shape) c (all_levelled model shape none (Measure c)) (ap is_none e) in
            let each : list_all (levelled (node_looks model shape) first.0) looks ≡ true =
            ap (every_look (levelled (node_looks model shape) first.0)) (sym e) ∙ first.1 in
            let looked_at = ap (λ o. list_any (is_same_measure m) (filter_map measure_of (looks_or_none o))) (sym e) ∙ h in
            let low = round_within model shape first.0 m (look_level first.0 m looks each looked_at) in
            let is = round_is model shape first.0 c first.1 first.2 in
            omega (arith, low, is)

    before : (c m : CellName) → looks_at model shape c m ≡ true → is_lt (cmp_by_round model shape m c) ≡ true
    before c m h =
        ap (λ r. is_lt (ordering_then r (cmp_name m c)))
        (sym (nat_cmp_is (round_of model shape m) (round_of model shape c) Less (earlier c m h)))

    -- with a measure that is in a set all that it looks at is
    abbrev IsClosedAt : (CellName → Bool) → CellName → Type 0
    IsClosedAt set c = (m : CellName) → set c ≡ true → looks_at model shape c m ≡ true → set m ≡ true

    one_closed : (set : CellName → Bool) (x : CellName) → IsClosedAt (with_looks model shape set x) x
    one_closed set x m h l =
        or_right (set m) (set x && looks_at model shape x m)
        (and_from (set x) (looks_at model shape x m) (absorbed (set x) (looks_at model shape x x) h) l)

    -- what stands behind x is not among its looks
    still_closed : (set : CellName → Bool) (x : CellName) (xs : List CellName) → Low (cmp_by_round model shape) x xs → Each (IsClosedAt set) xs
        → Each (IsClosedAt (with_looks model shape set x)) xs
    still_closed set x [] l a = tt
    still_closed set x (y ∷ ys) l a = (at, still_closed set x ys l.1 a.1)
      where
        was : (set y || (set x && looks_at model shape x y)) ≡ true → set y ≡ true
        was h =
            elim (or_cases (set y) (set x && looks_at model shape x y) h) [
              | inl s ↦ s
              | inr k ↦ let no : true ≡ false = sym (before x y (and_parts (set x) (looks_at model shape x y) k).1) ∙ l.0 in cc
            ]

        at : IsClosedAt (with_looks model shape set x) y
        at m h look = or_left (set m) (set x && looks_at model shape x m) (a.0 m (was h) look)

    module _ (held : CellName → Bool) where
      abbrev closing : List CellName → CellName → Bool
      closing = with_all_looks model shape held

      all_closed : (xs : List CellName) → Rising (cmp_by_round model shape) xs → Each (IsClosedAt (closing xs)) xs
      all_closed [] r = tt
      all_closed (x ∷ xs) r = (one_closed (closing xs) x, still_closed (closing xs) x xs r.0 (all_closed xs r.1))

      starts : (xs : List CellName) (m : CellName) → held m ≡ true → closing xs m ≡ true
      starts [] m h = h
      starts (x ∷ xs) m h = or_left (closing xs m) (closing xs x && looks_at model shape x m) (starts xs m h)

      module _ (target : CellName) (least : AreLeastSources model shape target) (holds : held target ≡ true)
          (only : (m : CellName) → held m ≡ true → is_source model shape target m ≡ true) where
        within : (xs : List CellName) (m : CellName) → closing xs m ≡ true → is_source model shape target m ≡ true
        within [] m h = only m h
        within (x ∷ xs) m h =
            elim (or_cases (closing xs m) (closing xs x && looks_at model shape x m) h) [
              | inl s ↦ within xs m s
              | inr k ↦
                  let both = and_parts (closing xs x) (looks_at model shape x m) k in
                  all_at (is_source model shape target) m (measures_looked_at model shape x) (least.0.1 x (within xs x both.0)) both.1
            ]

        abbrev names : List CellName
        names = by_rounds model shape

        closed : (c m : CellName) → closing names c ≡ true → looks_at model shape c m ≡ true → closing names m ≡ true
        closed c m h l = by (rule_at shape (Measure c)) refl
          where
            by : (o : Option ℕ) → rule_at shape (Measure c) ≡ o → closing names m ≡ true
            by None e = let k : false ≡ true = sym (nothing_looked c m e) ∙ l in cc
            by (Some number) e =
                let assigned = taken (list_any (is_same_measure c) (assigned_names shape)) (sym (ap is_none e) ∙ unruled_alike shape c) in
                let there = any_ascending (cmp_by_round model shape) (is_same_measure c) (assigned_names shape) ∙ assigned in
                each_at (IsClosedAt (closing names)) c names
                (all_closed names (rising_ascending (order_total model shape) (assigned_names shape))) there m h l

        -- one pass over the assigned measures gives the sources
        pub closing_is : (c : CellName) → closing names c ≡ is_source model shape target c
        closing_is c =
            told_alike (closing names c) (is_source model shape target c) (within names c)
            (least.1 (closing names) (
              starts names target holds,
              λ x h. all_from (closing names) (measures_looked_at model shape x) (λ m l. closed x m h l),
            ) c)

-- ---- the pass, round by round
-- the measures from a place of a round on are closed, and the places stay
pub record RoundClosed (model : Model) (shape : PartShape) (round : List ℕ) (i : ℕ) (before now : HeldMeasures) : Type 0 where
  pub within : i ≤ length round
  pub closes : Closes model shape (names_at shape.assigned (drop i round)) (is_held before) (is_held now)
  pub places : now.places ≡ before.places

-- the set is what the rounds from one on make of the target
pub record RoundsClosed (model : Model) (shape : PartShape) (target : CellName) (list : List (List ℕ)) (places : Numbered) (i : ℕ) (now : HeldMeasures) : Type 0 where
  pub within : i ≤ length list
  pub closes : Closes model shape (names_in shape.assigned (drop i list)) (λ m. is_same_measure m target) (is_held now)
  pub same : now.places ≡ places

or_nothing : (b : Bool) → (b || false) ≡ b
or_nothing true = refl
or_nothing false = refl

unheld : (a b c : Bool) → b ≡ false → (a || (b && c)) ≡ a
unheld true b c h = refl
unheld false false c h = refl
unheld false true c h = cc

turned : (l a b : Bool) → b ≡ true → (l || a) ≡ (a || (b && l))
turned true true true h = refl
turned true false true h = refl
turned false true true h = refl
turned false false true h = refl
turned l a false h = cc

module _ (model : Model) (shape : PartShape) where
  -- what the measure of an assignment looks at is what its rule does
  pub looked_by : (a : Assignment) → find (assigns a.1 a.0) shape.assigned ≡ Some a
      → filter_map measure_of (looks_by model shape a) ≡ measures_looked_at model shape (name_assigned a)
  looked_by a own =
      ap (filter_map measure_of) (by (slice_get model.part.rules (a.2 - 1)))
      ∙ sym (ap (λ (o : Option Assignment). filter_map measure_of (looks_or_none
      (option_map looks (option_and_then (λ number. slice_get model.part.rules (number - 1)) (option_map (λ (a : Assignment). a.2) o))))) own)
    where
      looks : Rule → List Look
      looks rule = looks_of (site_in model shape 0 a.0) rule.right

      by : (o : Option Rule) → option_map_or looks o [] ≡ looks_or_none (option_map looks o)
      by None = refl
      by (Some rule) = refl

  -- .. with these cells
  pub looked_over : (a : Assignment) (keys : List Tuple) → keys ≡ shape.cells → find (assigns a.1 a.0) shape.assigned ≡ Some a
      → filter_map measure_of (option_map_or (λ rule. looks_of (site_with model 0 a.0 keys) rule.right) (slice_get model.part.rules (a.2 - 1)) [])
      ≡ measures_looked_at model shape (name_assigned a)
  looked_over a keys same own =
      ap (λ (set : List Tuple). filter_map measure_of (option_map_or (λ rule. looks_of (site_with model 0 a.0 set) rule.right) (slice_get model.part.rules (a.2 - 1)) [])) same
      ∙ looked_by a own

  -- a measure that a set does not have, and one that it has
  pub closes_without : (name : CellName) (held : CellName → Bool) (b : Bool) → b ≡ held name → b ≡ false → Closes model shape (name ∷ []) held held
  closes_without name held b e f c = sym (unheld (held c) (held name) (looks_at model shape name c) (sym e ∙ f))

  pub closes_with : (name : CellName) (told : List CellName) (held after : CellName → Bool) (b : Bool) → b ≡ held name → b ≡ true
      → told ≡ measures_looked_at model shape name → HasMore told held after → Closes model shape (name ∷ []) held after
  closes_with name told held after b e f is h c =
      h c
      ∙ ap (λ l. list_any (is_same_measure c) l || held c) is
      ∙ turned (looks_at model shape name c) (held c) (held name) (sym e ∙ f)

  closed_append : (held : CellName → Bool) (xs ys : List CellName) (c : CellName)
      → with_all_looks model shape held (xs ++ ys) c ≡ with_all_looks model shape (with_all_looks model shape held ys) xs c
  closed_append held [] ys c = refl
  closed_append held (x ∷ xs) ys c = λ i. closed_append held xs ys c i || (closed_append held xs ys x i && looks_at model shape x c)

  closed_alike : (f g : CellName → Bool) → ((c : CellName) → f c ≡ g c) → (xs : List CellName) (c : CellName)
      → with_all_looks model shape f xs c ≡ with_all_looks model shape g xs c
  closed_alike f g h [] c = h c
  closed_alike f g h (x ∷ xs) c = λ i. closed_alike f g h xs c i || (closed_alike f g h xs x i && looks_at model shape x c)

  -- those in front are closed behind those after them
  closes_more : (xs ys zs : List CellName) (held now after : CellName → Bool) → zs ≡ xs ++ ys → Closes model shape ys held now
      → Closes model shape xs now after → Closes model shape zs held after
  closes_more xs ys zs held now after is w h c =
      h c
      ∙ closed_alike now (with_all_looks model shape held ys) w xs c
      ∙ sym (closed_append held xs ys c)
      ∙ ap (λ l. with_all_looks model shape held l c) (sym is)

  module _ (round : List ℕ) (before : HeldMeasures) where
    pub round_start : (i : ℕ) → i ≡ length round → RoundClosed model shape round i before before
    round_start i e =
        let at : length round ≤ i = omega (arith, e) in
        record {
          within = omega (arith, e);
          closes = λ c. ap (λ (l : List ℕ). with_all_looks model shape (is_held before) (names_at shape.assigned l) c) (sym (drop_all i round at));
          places = refl;
        }

    pub round_more : (left place : ℕ) (a : Assignment) (now after : HeldMeasures) → 0 < left → place ≡ get_or round (left - 1) place
        → slice_get shape.assigned place ≡ Some a → Closes model shape (name_assigned a ∷ []) (is_held now) (is_held after)
        → after.places ≡ now.places → RoundClosed model shape round left before now → RoundClosed model shape round (left - 1) before after
    round_more left place a now after some is at h places w =
        let within = w.within in
        let lt : left - 1 < length round = omega (arith, some, within) in
        let same : left ≡ left - 1 + 1 = omega (arith, some) in
        record {
          within = omega (arith, within);
          closes =
              closes_more (name_assigned a ∷ []) (names_at shape.assigned (drop (left - 1 + 1) round)) (names_at shape.assigned (drop (left - 1) round))
              (is_held before) (is_held now) (is_held after) (names_next shape.assigned round (left - 1) place a lt is at)
              (subst (λ n. Closes model shape (names_at shape.assigned (drop n round)) (is_held before) (is_held now)) same w.closes) h;
          places = places ∙ w.places;
        }

    pub round_end : (i : ℕ) (now : HeldMeasures) → i ≤ 0 → RoundClosed model shape round i before now
        → Closes model shape (names_at shape.assigned round) (is_held before) (is_held now)
    round_end i now h w =
        let first : i ≡ 0 = omega (arith, h) in
        subst (λ n. Closes model shape (names_at shape.assigned (drop n round)) (is_held before) (is_held now)) first w.closes

  module _ (target : CellName) (list : List (List ℕ)) (places : Numbered) where
    abbrev own : CellName → Bool
    own m = is_same_measure m target

    pub rounds_start : (i : ℕ) (empty now : HeldMeasures) → i ≡ length list → ((c : CellName) → is_held empty c ≡ false) → empty.places ≡ places
        → HasOneMore target (is_held empty) (is_held now) → now.places ≡ empty.places → RoundsClosed model shape target list places i now
    rounds_start i empty now e none at one same =
        let le : length list ≤ i = omega (arith, e) in
        record {
          within = omega (arith, e);
          closes = λ c.
              one c ∙ ap (λ b. is_same_measure c target || b) (none c) ∙ or_nothing (is_same_measure c target)
              ∙ ap (λ (l : List (List ℕ)). with_all_looks model shape own (names_in shape.assigned l) c) (sym (drop_all i list le));
          same = same ∙ at;
        }

    pub rounds_more : (left : ℕ) (round : List ℕ) (now after : HeldMeasures) → 0 < left → round ≡ get_or list (left - 1) round
        → Closes model shape (names_at shape.assigned round) (is_held now) (is_held after) → after.places ≡ now.places
        → RoundsClosed model shape target list places left now → RoundsClosed model shape target list places (left - 1) after
    rounds_more left round now after some is h stay w =
        let within = w.within in
        let lt : left - 1 < length list = omega (arith, some, within) in
        let at : left ≡ left - 1 + 1 = omega (arith, some) in
        record {
          within = omega (arith, within);
          closes =
              closes_more (names_at shape.assigned round) (names_in shape.assigned (drop (left - 1 + 1) list)) (names_in shape.assigned (drop (left - 1) list))
              own (is_held now) (is_held after) (round_next shape.assigned list (left - 1) round lt is)
              (subst (λ n. Closes model shape (names_in shape.assigned (drop n list)) own (is_held now)) at w.closes) h;
          same = stay ∙ w.same;
        }

    pub rounds_end : (i : ℕ) (now : HeldMeasures) → i ≤ 0 → IsFound model shape → AreRoundsOf model shape list → AreLeastSources model shape target
        → RoundsClosed model shape target list places i now → HasSourcesOf model shape target (is_held now)
    rounds_end i now h found are least w c =
        let first : i ≡ 0 = omega (arith, h) in
        w.closes c
        ∙ ap (λ k. with_all_looks model shape own (names_in shape.assigned (drop k list)) c) first
        ∙ ap (λ l. with_all_looks model shape own l c) (ordered_is model shape found list are)
        ∙ closing_is model shape found.levelled own target least (named_itself target) only c
      where
        only : (m : CellName) → is_same_measure m target ≡ true → is_source model shape target m ≡ true
        only m e = ap (is_source model shape target) (named_same m target e) ∙ least.0.0
