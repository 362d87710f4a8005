-- A visit to an assignment: what is known of it is right then, and so is what stands there.
use Rattle.std.proofs.Common.{◌≡◌, ℕ, suc, ◌+◌, ◌-◌, ◌<◌, ◌≤◌, Bool, true, false, ◌||◌, not, cond, List, [], ◌∷◌, ◌++◌, length, Option, Some, None, IsSome, slice_get, get_or, refl, sym, ap, subst, ◌∙◌}
use Rattle.std.specs.Prelude.{if◌then◌else◌, unwrap_or}
use Rattle.std.specs.List.{All, list_all}
use Rattle.std.specs.Option.{option_and_then, option_map, option_map_or}
use Rattle.std.proofs.lemmas.Bool.{and_parts, or_parts}
use Rattle.std.proofs.lemmas.List.Elements.{All-get_or, All-push, All-weaker}
use Rattle.std.proofs.lemmas.Option.{get_or_from_slice_get, slice_get_within}
use Rattle.mq_ir.specs.declared.query.CellName.{CellName}
use Rattle.mq_ir.specs.declared.query.Look.{Look}
use Rattle.mq_ir.specs.declared.query.Look.TheVariants.{Measure, Presence}
use Rattle.mq_ir.specs.declared.query.PartShape.{PartShape}
use Rattle.mq_ir.specs.declared.query.Rule.{Rule}
use Rattle.mq_ir.specs.declared.query.Slot.{Slot}
use Rattle.mq_ir.specs.declared.query.Slot.TheVariants.{Done}
use Rattle.mq_ir.specs.Automatic.{assigning_rule, node_looks, node_of, round_count, slots_in, system_of}
use Rattle.mq_ir.specs.Looks.{looks_of}
use Rattle.mq_ir.specs.Partitions.{Cells, cell_at}
use Rattle.mq_ir.specs.ReadLaws.{AgreeAt}
use Rattle.mq_ir.specs.Rounds.{every_look, levelled, some_look}
use Rattle.mq_ir.specs.Shape.{Assignment, assigns}
use Rattle.std.specs.List.{find}
use Rattle.mq_ir.specs.Slots.{cell_slot, site_in}
use Rattle.mq_ir.specs.Unfolding.{Model}
use Rattle.mq_cells.specs.Stores.{CellInput, DiffersAt, Results, input_value, is_named, name_assigned, slot_at}
use Rattle.mq_change_laws.specs.NodeLaws.{StepsRead, slot_is_step}
use Rattle.mq_change_laws.specs.SettledLaws.{unassigned_value}
use Rattle.mq_auto.specs.Meaning.{result_at}
use Rattle.mq_auto.specs.Walks.{IsPut}
use Rattle.mq_auto_shape.specs.Edges.{looks_by}
use Rattle.mq_auto_shape.specs.Found.{IsRuled, comes_in, is_levelled, place_comes_in}
use Rattle.mq_ir.specs.Keys.{Tuple}
use Rattle.mq_refs.specs.Sightings.{measures_in}
use Rattle.mq_refs.specs.Sites.{site_with}
use Rattle.mq_refs.specs.SlotsOver.{cell_slot_over}
use Rattle.mq_delta_cells.specs.Marks.{Marks}
use Rattle.mq_delta_cells.specs.Walks.{BeginsRight, Ground, IsAssigned, IsRight, IsRightAt, IsVisited, IsWalked, is_changed, is_hit, is_known_in, reached_on, reads_at, reads_of_hit}
use Rattle.mq_delta_cells.proofs.GroundLemmas.{IsSolid, goes, outside_reached, ruled_looks, told_reached}
use Rattle.mq_delta_cells.proofs.NodeLemmas.{named_itself, named_same}
use Rattle.mq_delta_cells.proofs.SettledLemmas.{any_alike}

-- what holds of each holds of the one at a place
pub at_place : {X : Type 0} (P : X → Type 0) (xs : List X) (k : ℕ) (x : X) → slice_get xs k ≡ Some x → All P xs → P x
at_place P xs k x e h = subst P (get_or_from_slice_get xs k x x e) (All-get_or P xs k x (slice_get_within xs k x e) h)

not_true : (b : Bool) → not b ≡ true → b ≡ false
not_true true h = cc
not_true false h = refl

module _ (model : Model) (shape : PartShape) (input : Cells) where
  right_slot_by : (c : CellName) (o : Option (List Look)) → node_looks model shape (Measure c) ≡ o
      → unwrap_or (option_map (λ looks. slots_in model shape input c) o) (Done (input_value (cell_at input) c)) ≡ slots_in model shape input c
  right_slot_by c None e = sym (unassigned_value (system_of model shape input) (round_count shape) (Measure c) e)
  right_slot_by c (Some looks) e = refl

  -- where what is to stand at a measure does, a read gives its slot in the end
  right_slot : (results : Results) (c : CellName) → results c ≡ result_at model shape input c → slot_at (cell_at input) results c ≡ slots_in model shape input c
  right_slot results c h =
      ap (λ o. unwrap_or o (Done (input_value (cell_at input) c))) h ∙ right_slot_by c (node_looks model shape (Measure c)) refl

  -- where a rule assigns a measure, its slot in the end is to stand there
  result_is : (c : CellName) (rule : Rule) → assigning_rule model shape (Measure c) ≡ Some rule → result_at model shape input c ≡ Some (slots_in model shape input c)
  result_is c rule e =
      ap (λ o. option_map (λ looks. slots_in model shape input c) (option_map (λ (rule : Rule). looks_of (site_in model shape 0 c.key) rule.right) o)) e

module _ (g : Ground) (solid : IsSolid g) (given : CellInput) (first : Results) (n : ℕ) where
  abbrev level : ℕ → Look → Bool
  level = levelled (node_looks g.model g.shape)

  module _ (met : List ℕ) (changed : Marks) (results : Results) (walked : IsWalked g given first n met changed results) where
    -- what is known to be reached is
    known_reached : (c : CellName) → is_known_in g changed (Measure c) ≡ true → reached_on g (Measure c) ≡ true
    known_reached c h = by (is_changed g changed c) refl h
      where
        by : (b : Bool) → is_changed g changed c ≡ b → (b || g.outside (Measure c)) ≡ true → reached_on g (Measure c) ≡ true
        by true e k = walked.sound c e
        by false e k = told_reached g solid (Measure c) (solid.outside_told (Measure c) k)

    -- what the change does not reach is not known to be reached
    unreached_unknown : (c : CellName) → reached_on g (Measure c) ≡ false → is_known_in g changed (Measure c) ≡ false
    unreached_unknown c h = by (is_known_in g changed (Measure c)) refl
      where
        by : (b : Bool) → is_known_in g changed (Measure c) ≡ b → b ≡ false
        by true e = let k : true ≡ false = sym (known_reached c e) ∙ h in cc
        by false e = refl

    pub unreached_kept : (c : CellName) → reached_on g (Measure c) ≡ false → results c ≡ first c
    unreached_kept c h =
        walked.kept c (or_parts (is_changed g changed c) (g.outside (Measure c)) (unreached_unknown c h)).0

    known_is : (t : Look) → level n t ≡ true → level n t ≡ true → is_known_in g changed t ≡ reached_on g t
    known_is (Measure c) l k = (walked.below c l).known
    known_is (Presence key) l k = outside_reached g solid (Presence key) refl

    -- an assignment of the next round
    module _ (place : ℕ) (a : Assignment) (at : slice_get g.shape.assigned place ≡ Some a) (comes : place_comes_in g.model g.shape n place ≡ true) where
      abbrev name : CellName
      name = name_assigned a

      abbrev its : List Look
      its = looks_by g.model g.shape a

      own : find (assigns a.1 a.0) g.shape.assigned ≡ Some a
      own = at_place (λ (b : Assignment). find (assigns b.1 b.0) g.shape.assigned ≡ Some b) g.shape.assigned place a at solid.own

      ruled : IsRuled g.model a
      ruled = at_place (IsRuled g.model) g.shape.assigned place a at solid.ruled

      has_looks : node_looks g.model g.shape (node_of a) ≡ Some its
      has_looks = ruled_looks g.model g.shape a ruled own

      later : level (suc n) (node_of a) ≡ true
      later =
          let in_round : comes_in g.model g.shape n a ≡ true = ap (λ o. option_map_or (comes_in g.model g.shape n) o false) (sym at) ∙ comes in
          (and_parts (is_levelled g.model g.shape (suc n) a) (not (is_levelled g.model g.shape n a)) in_round).0

      earlier : list_all (level n) its ≡ true
      earlier = ap (every_look (level n)) (sym has_looks) ∙ later

      -- whether the change reaches it is told by what is known
      pub hit_is : is_hit g changed a ≡ reached_on g (node_of a)
      hit_is =
          ap (λ b. g.told (node_of a) || b) (any_alike (is_known_in g changed) (reached_on g) (level n) (level n) known_is its earlier earlier)
          ∙ ap (λ o. g.told (node_of a) || some_look (reached_on g) o) (sym has_looks)
          ∙ sym (goes g solid (node_of a))

      pub reads_is : reads_of_hit g changed a ≡ reads_at g place
      reads_is =
          ap (λ b. if b then measures_in its else 0) hit_is
          ∙ ap (λ o. option_map_or (λ (b : Assignment). if reached_on g (node_of b) then measures_in (looks_by g.model g.shape b) else 0) o 0) (sym at)

      rule_there : (o : Option Rule) → IsSome o → (rule : Rule) × (o ≡ Some rule)
      rule_there None h = cc
      rule_there (Some rule) h = (rule, refl)

      module _ (law : StepsRead) (next : Marks) (after : Results) where
        -- the change does not reach it
        missed : is_hit g changed a ≡ false → next ≡ changed → after ≡ results → IsRight g given first next after name
        missed spared same kept =
            let unreached : reached_on g (Measure name) ≡ false = sym hit_is ∙ spared in
            let unknown = unreached_unknown name unreached in
            record {
              known = ap (λ (marks : Marks). is_known_in g marks (Measure name)) same ∙ unknown ∙ sym unreached;
              result = λ input from begins. ap (λ (r : Results). r name) kept ∙ unreached_kept name unreached ∙ begins.unreached name unreached;
            }

        -- the looks of an assignment have their slots
        agree : (input : Cells) → given ≡ cell_at input → BeginsRight g input first → (xs : List Look) → list_all (level n) xs ≡ true
            → AgreeAt (slot_at (cell_at input) results) (slots_in g.model g.shape input) xs
        agree input from begins [] h = tt
        agree input from begins (Measure c ∷ xs) h =
            let both = and_parts (level n (Measure c)) (list_all (level n) xs) h in
            (right_slot g.model g.shape input results c ((walked.below c both.0).result input from begins), agree input from begins xs both.1)
        agree input from begins (Presence key ∷ xs) h =
            agree input from begins xs (and_parts (level n (Presence key)) (list_all (level n) xs) h).1

        module _ (rule : Rule) (there : slice_get g.model.part.rules (a.2 - 1) ≡ Some rule) where
          assigning : assigning_rule g.model g.shape (Measure name) ≡ Some rule
          assigning = ap (λ (o : Option Assignment). option_and_then (λ number. slice_get g.model.part.rules (number - 1)) (option_map (λ b. b.2) o)) own ∙ there

          its_are : its ≡ looks_of (site_in g.model g.shape 0 a.0) rule.right
          its_are = ap (λ (o : Option Rule). option_map_or (λ (rule : Rule). looks_of (site_in g.model g.shape 0 a.0) rule.right) o []) there

          slot_found : (input : Cells) → given ≡ cell_at input → BeginsRight g input first
              → cell_slot g.model g.shape 0 rule a.0 (slot_at given results) ≡ slots_in g.model g.shape input name
          slot_found input from begins =
              ap (λ (i : CellInput). cell_slot g.model g.shape 0 rule a.0 (slot_at i results)) from
              ∙ law g.model g.shape 0 rule a.0 (slot_at (cell_at input) results) (slots_in g.model g.shape input)
              (subst (AgreeAt (slot_at (cell_at input) results) (slots_in g.model g.shape input)) its_are (agree input from begins its earlier))
              ∙ sym (slot_is_step g.model g.shape law input (suc n) name rule assigning later)

        put_is : IsAssigned g given results after changed next a → is_hit g changed a ≡ true → IsRight g given first next after name
        put_is done met_it =
            let r = rule_there (slice_get g.model.part.rules (a.2 - 1)) ruled.1 in
            record {
              known =
                  ap (λ b. b || g.outside (Measure name)) (done.noted name ∙ ap (λ b. b || is_changed g changed name) (named_itself name))
                  ∙ sym (sym hit_is ∙ met_it);
              result =
                  λ input from begins.
                  done.put r.0 r.1 name
                  ∙ ap (λ b. if b then Some (cell_slot g.model g.shape 0 r.0 a.0 (slot_at given results)) else results name) (named_itself name)
                  ∙ ap Some (slot_found r.0 r.1 input from begins)
                  ∙ sym (result_is g.model g.shape input name r.0 (assigning r.0 r.1));
            }

        -- elsewhere all is as before
        other_known : IsAssigned g given results after changed next a → (c : CellName) → is_named name c ≡ false → is_changed g next c ≡ is_changed g changed c
        other_known done c e = done.noted c ∙ ap (λ b. b || is_changed g changed c) e

        other_result : IsAssigned g given results after changed next a → (c : CellName) → is_named name c ≡ false → after c ≡ results c
        other_result done c e =
            let r = rule_there (slice_get g.model.part.rules (a.2 - 1)) ruled.1 in
            done.put r.0 r.1 c ∙ ap (λ b. if b then Some (cell_slot g.model g.shape 0 r.0 a.0 (slot_at given results)) else results c) e

        right_stays : IsAssigned g given results after changed next a → is_hit g changed a ≡ true → (c : CellName)
            → IsRight g given first changed results c → IsRight g given first next after c
        right_stays done met_it c was = by (is_named name c) refl
          where
            by : (b : Bool) → is_named name c ≡ b → IsRight g given first next after c
            by true e = subst (IsRight g given first next after) (named_same name c e) (put_is done met_it)
            by false e = record {
              known = ap (λ b. b || g.outside (Measure c)) (other_known done c e) ∙ was.known;
              result = λ input from begins. other_result done c e ∙ was.result input from begins;
            }

        here_is : IsRight g given first next after name → IsRightAt g given first next after place
        here_is right b e = let s : a ≡ b = (let k : Some a ≡ Some b = sym at ∙ e in cc) in subst (λ (x : Assignment). IsRight g given first next after (name_assigned x)) s right

        walk_hit : IsAssigned g given results after changed next a → is_hit g changed a ≡ true → IsWalked g given first n (met ++ place ∷ []) next after
        walk_hit done met_it = record {
          sound = λ c h. sound_by c (is_named name c) refl h;
          kept = λ c h. kept_by c (is_named name c) refl h;
          below = λ c l. right_stays done met_it c (walked.below c l);
          met =
              All-push (IsRightAt g given first next after) met place
              (All-weaker (IsRightAt g given first changed results) (IsRightAt g given first next after) (λ p was b e. right_stays done met_it (name_assigned b) (was b e)) met walked.met)
              (here_is (put_is done met_it));
        }
          where
            sound_by : (c : CellName) (b : Bool) → is_named name c ≡ b → is_changed g next c ≡ true → reached_on g (Measure c) ≡ true
            sound_by c true e h = ap (λ (d : CellName). reached_on g (Measure d)) (sym (named_same name c e)) ∙ sym hit_is ∙ met_it
            sound_by c false e h = walked.sound c (sym (other_known done c e) ∙ h)

            kept_by : (c : CellName) (b : Bool) → is_named name c ≡ b → is_changed g next c ≡ false → after c ≡ first c
            kept_by c true e h =
                absurd (let k : false ≡ true = sym h ∙ done.noted c ∙ ap (λ b. b || is_changed g changed c) e in cc)
            kept_by c false e h = other_result done c e ∙ walked.kept c (sym (other_known done c e) ∙ h)

        walk_missed : is_hit g changed a ≡ false → next ≡ changed → after ≡ results → IsWalked g given first n (met ++ place ∷ []) next after
        walk_missed spared same kept =
            let here = here_is (missed spared same kept) in record {
              sound = λ c h. walked.sound c (ap (λ (marks : Marks). is_changed g marks c) (sym same) ∙ h);
              kept = λ c h. ap (λ (r : Results). r c) kept ∙ walked.kept c (ap (λ (marks : Marks). is_changed g marks c) (sym same) ∙ h);
              below = λ c l. moved c (walked.below c l);
              met =
                  All-push (IsRightAt g given first next after) met place
                  (All-weaker (IsRightAt g given first changed results) (IsRightAt g given first next after) (λ p was b e. moved (name_assigned b) (was b e)) met walked.met)
                  here;
            }
          where
            moved : (c : CellName) → IsRight g given first changed results c → IsRight g given first next after c
            moved c was = record {
              known = ap (λ (marks : Marks). is_known_in g marks (Measure c)) same ∙ was.known;
              result = λ input from begins. ap (λ (r : Results). r c) kept ∙ was.result input from begins;
            }

        -- one more place of the next round is done
        pub walk_next : IsVisited g given results after changed next a → IsWalked g given first n (met ++ place ∷ []) next after
        walk_next visited = by (is_hit g changed a) refl
          where
            by : (b : Bool) → is_hit g changed a ≡ b → IsWalked g given first n (met ++ place ∷ []) next after
            by true e = walk_hit (visited.hit e) e
            by false e = let same = visited.missed e in walk_missed e same.0 same.1

-- what is put at the measure of an assignment is what its rule makes of the cell
pub slot_put : (model : Model) (shape : PartShape) (given : CellInput) (before mid after : Results) (a : Assignment) (rule : Rule) (slot : Slot) → mid ≡ before
    → slot ≡ cell_slot model shape 0 rule a.0 (slot_at given before) → DiffersAt mid after (name_assigned a) (Some slot) → IsPut model shape given before after a rule
slot_put model shape given before mid after a rule slot same is differs c =
    differs c ∙ (λ i. cond (is_named (name_assigned a) c) (Some (is i)) (same i c))

-- the slot that is found over the keys of a course is that over the shape
pub slot_over_is : (model : Model) (shape : PartShape) (cells base : List Tuple) (given : CellInput) (results : Results) (a : Assignment) (r rule : Rule) (slot : Slot)
    → cells ≡ shape.cells → base ≡ shape.base → Some r ≡ slice_get model.part.rules (a.2 - 1) → slot ≡ cell_slot_over model cells base 0 r a.0 (slot_at given results)
    → slice_get model.part.rules (a.2 - 1) ≡ Some rule → slot ≡ cell_slot model shape 0 rule a.0 (slot_at given results)
slot_over_is model shape cells base given results a r rule slot set from there is at =
    let one : r ≡ rule = ap (λ o. unwrap_or o r) (there ∙ at) in
    is ∙ (λ i. cell_slot_over model (set i) (from i) 0 (one i) a.0 (slot_at given results))

pub reads_over : (model : Model) (shape : PartShape) (cells : List Tuple) (a : Assignment) (r : Rule) (now later : ℕ) → cells ≡ shape.cells
    → Some r ≡ slice_get model.part.rules (a.2 - 1) → later ≤ now + measures_in (looks_of (site_with model 0 a.0 cells) r.right)
    → later ≤ now + measures_in (looks_by model shape a)
reads_over model shape cells a r now later set there h =
    subst (λ (xs : List Look). later ≤ now + measures_in xs)
    (ap (λ (set : List Tuple). looks_of (site_with model 0 a.0 set) r.right) set
    ∙ ap (λ (o : Option Rule). option_map_or (λ rule. looks_of (site_in model shape 0 a.0) rule.right) o []) there) h

-- a visit by what it found
pub visited_hit : (g : Ground) (given : CellInput) (before after : Results) (changed next : Marks) (a : Assignment) → is_hit g changed a ≡ true
    → IsAssigned g given before after changed next a → IsVisited g given before after changed next a
visited_hit g given before after changed next a e done = record { hit = λ _. done; missed = λ f. absurd (let k : true ≡ false = sym e ∙ f in cc) }

pub visited_missed : (g : Ground) (given : CellInput) (before after : Results) (changed next : Marks) (a : Assignment) → is_hit g changed a ≡ false
    → next ≡ changed → after ≡ before → IsVisited g given before after changed next a
visited_missed g given before after changed next a e n r = record { hit = λ f. absurd (let k : true ≡ false = sym f ∙ e in cc); missed = λ _. (n, r) }

pub reads_hit : (g : Ground) (changed : Marks) (a : Assignment) (now later : ℕ) → is_hit g changed a ≡ true
    → later ≤ now + measures_in (looks_by g.model g.shape a) → later ≤ now + reads_of_hit g changed a
reads_hit g changed a now later e h =
    subst (λ k. later ≤ now + k) (sym (ap (λ b. if b then measures_in (looks_by g.model g.shape a) else 0) e)) h

-- the item at a place is the one that is read there
pub same_item : {X : Type 0} (xs : List X) (k : ℕ) (x y : X) → x ≡ get_or xs k x → slice_get xs k ≡ Some y → x ≡ y
same_item xs k x y is at = is ∙ get_or_from_slice_get xs k y x at

pub holds_here : {X : Type 0} (P : X → Type 0) (xs : List X) (k : ℕ) (x : X) → x ≡ get_or xs k x → k < length xs → All P xs → P x
holds_here P xs k x is lt all = subst P (sym is) (All-get_or P xs k x lt all)
