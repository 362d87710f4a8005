-- Each version is worth what its looks come to, and the last ones stand in the end.
use Rattle.std.proofs.Common.{◌≡◌, Bool, true, false, List, [], ◌∷◌, cond, map, Some, None, Ok, Err, refl, sym, ap, subst, ◌∙◌}
use Rattle.std.specs.List.{find, fold, list_all}
use Rattle.std.specs.List.Sorted.{IsStrictlySortedBy}
use Rattle.std.specs.Map.{keys_of}
use Rattle.std.specs.Option.{option_map_or}
use Rattle.std.proofs.lemmas.Bool.{and_from}
use Rattle.mq_values.specs.Order.{cmp_key}
use Rattle.mq_values.specs.declared.value.Value.{Value}
use Rattle.mq_ir.specs.declared.query.CellName.{CellName}
use Rattle.mq_ir.specs.declared.query.Look.{Look}
use Rattle.mq_ir.specs.declared.query.Look.TheVariants.{Measure, Presence}
use Rattle.mq_ir.specs.declared.query.Slot.{Slot}
use Rattle.mq_ir.specs.declared.query.Slot.TheVariants.{Done, Poisoned}
use Rattle.mq_ir.specs.EachLaws.{Each, all_of}
use Rattle.mq_ir.specs.Expression.{Outcome}
use Rattle.mq_ir.specs.Histories.{first_own_fault, given_slots, history, node_slot, slot_named, slots_after, slots_from, version_slot, with_slot}
use Rattle.mq_ir.specs.Keys.{Tuple}
use Rattle.mq_ir.specs.Partitions.{Cells}
use Rattle.mq_ir.specs.Placed.{value_fault}
use Rattle.mq_ir.specs.Reads.{right_value}
use Rattle.mq_ir.specs.Slots.{Slots, done_value, is_done, is_known, slot_of}
use Rattle.mq_ir.specs.Unfolding.{Model}
use Rattle.mq_ir.specs.VersionLooks.{VersionName, Made, Given, is_version_of, links_from, name_of, resolved, version_links, version_looks, version_site}
use Rattle.mq_ir.specs.Versions.{Version, versions}
use Rattle.mq_change_laws.specs.KeyLaws.{each_map}
use Rattle.mq_version_laws.specs.HistoryLaws.{HistoryIsSlots, IsWorthItsLooks, LastVersionStands, UnfaultedAreDone, VersionsAreWorthTheirLooks}
use Rattle.mq_version_laws.proofs.HistoryLemmas.{has_versions}
use Rattle.mq_version_laws.proofs.NameLemmas.{Own, once_by, own_names}
use Rattle.mq_version_laws.proofs.SoundLemmas.{names_once}

abbrev pub named_by : Version × Slot → VersionName
named_by w = name_of w.0

pub names_told : (model : Model) (keys : List Tuple) (vs : List Version) (slots : Slots)
    → map name_of vs ≡ map named_by (slots_from model keys vs slots)
names_told model keys [] slots = refl
names_told model keys (v ∷ vs) slots = ap (λ l. name_of v ∷ l) (names_told model keys vs (with_slot slots v (version_slot model keys v slots)))

module _ (model : Model) (input : Cells) where
  -- a version's slot is the one that is found by its name
  abbrev Named : Version × Slot → Type 0
  Named w = slot_named (history model input) (name_of w.0) ≡ w.1

  named : IsStrictlySortedBy cmp_key (keys_of input) → Each Named (history model input)
  named s =
      each_map (Own named_by (history model input)) Named (λ w own. ap (λ o. option_map_or (λ (x : Version × Slot). x.1) o Poisoned) own) (history model input)
      (own_names named_by (history model input)
      (once_by name_of named_by (versions model (keys_of input)) (history model input)
      (names_told model (keys_of input) (versions model (keys_of input)) (given_slots input)) (names_once model (keys_of input) s)))

  slots_told : (ws : List (Version × Slot)) → Each Named ws
      → ws ≡ map (λ v. (v, node_slot model input (Made (name_of v)))) (map (λ w. w.0) ws)
  slots_told [] a = refl
  slots_told (w ∷ ws) a = λ i. (w.0, sym a.0 i) ∷ slots_told ws a.1 i

  pub history_slots : HistoryIsSlots model input
  history_slots s =
      slots_told (history model input) (named s) ∙ ap (map (λ v. (v, node_slot model input (Made (name_of v))))) (has_versions model input)

  -- the slots of a moment are what the looks of that moment come to
  abbrev Told : List Version → Slots → Type 0
  Told earlier slots = (c : CellName) → slots c ≡ node_slot model input (resolved earlier (Measure c))

  told_next : (earlier : List Version) (slots : Slots) (v : Version) (slot : Slot) → node_slot model input (Made (name_of v)) ≡ slot
      → Told earlier slots
      → Told (v ∷ earlier) (with_slot slots v slot)
  told_next earlier slots v slot is told c = by (is_version_of c v)
    where
      by : (b : Bool)
          → cond b slot (slots c)
          ≡ node_slot model input (option_map_or (λ w. Made (name_of w)) (cond b (Some v) (find (is_version_of c) earlier)) (Given c))
      by true = sym is
      by false = told c

  links_worth : (vs earlier : List Version) (slots : Slots) → Each Named (slots_from model (keys_of input) vs slots) → Told earlier slots
      → Each (IsWorthItsLooks model input) (links_from earlier vs)
  links_worth [] earlier slots n told = tt
  links_worth (v ∷ vs) earlier slots n told =
      let slot = version_slot model (keys_of input) v slots in
      (n.0 ∙ ap (version_slot model (keys_of input) v) (λ i c. told c i), links_worth vs (v ∷ earlier) (with_slot slots v slot) n.1 (told_next earlier slots v slot n.0 told))

  pub each_worth : IsStrictlySortedBy cmp_key (keys_of input) → Each (IsWorthItsLooks model input) (version_links model (keys_of input))
  each_worth s = links_worth (versions model (keys_of input)) [] (given_slots input) (named s) (λ c. refl)

  last_told : (vs earlier : List Version) (slots : Slots) → Each Named (slots_from model (keys_of input) vs slots) → Told earlier slots
      → Told (fold (λ before v. v ∷ before) earlier vs) (slots_after model (keys_of input) vs slots)
  last_told [] earlier slots n told = told
  last_told (v ∷ vs) earlier slots n told =
      let slot = version_slot model (keys_of input) v slots in
      last_told vs (v ∷ earlier) (with_slot slots v slot) n.1 (told_next earlier slots v slot n.0 told)

  pub last_stands : (c : CellName) → LastVersionStands model input c
  last_stands c s = last_told (versions model (keys_of input)) [] (given_slots input) (named s) (λ c. refl) c

pub worth_by_looks : (model : Model) (input : Cells) → VersionsAreWorthTheirLooks model input
worth_by_looks model input s = all_of (IsWorthItsLooks model input) (version_links model (keys_of input)) (each_worth model input s)

-- ---- where nothing faults, all is done
abbrev AllDone : Slots → Type 0
AllDone slots = (c : CellName) → is_done (slots c) ≡ true

all_known : (slots : Slots) → AllDone slots → (looks : List Look) → list_all (is_known slots) looks ≡ true
all_known slots done [] = refl
all_known slots done (Measure c ∷ looks) = and_from (is_done (slots c)) (list_all (is_known slots) looks) (done c) (all_known slots done looks)
all_known slots done (Presence key ∷ looks) = all_known slots done looks

module _ (model : Model) (keys : List Tuple) where
  done_from : (vs : List Version) (slots : Slots) → AllDone slots → first_own_fault (slots_from model keys vs slots) ≡ None
      → Each (λ w. w.1 ≡ Done (done_value w.1)) (slots_from model keys vs slots)
  done_from [] slots done h = tt
  done_from (v ∷ vs) slots done h = by outcome slot_is h (λ slot. done_from vs (with_slot slots v slot))
    where
      outcome : Outcome
      outcome = right_value (version_site model v) keys (λ c. done_value (slots c)) v.rule

      slot_is : version_slot model keys v slots ≡ slot_of outcome
      slot_is = ap (λ b. cond b (slot_of outcome) Poisoned) (all_known slots done (version_looks model v))

      next_done : (value : Value) → AllDone (with_slot slots v (Done value))
      next_done value c = each (is_version_of c v)
        where
          each : (b : Bool) → is_done (cond b (Done value) (slots c)) ≡ true
          each true = refl
          each false = done c

      from : Slot → List (Version × Slot)
      from slot = (v, slot) ∷ slots_from model keys vs (with_slot slots v slot)

      by : (o : Outcome) → version_slot model keys v slots ≡ slot_of o → first_own_fault (from (version_slot model keys v slots)) ≡ None
          → ((slot : Slot) → AllDone (with_slot slots v slot) → first_own_fault (slots_from model keys vs (with_slot slots v slot)) ≡ None
          → Each (λ w. w.1 ≡ Done (done_value w.1)) (slots_from model keys vs (with_slot slots v slot)))
          → Each (λ w. w.1 ≡ Done (done_value w.1)) (from (version_slot model keys v slots))
      by (Ok value) e h more =
          let none : first_own_fault (from (Done value)) ≡ None = sym (ap (λ slot. first_own_fault (from slot)) e) ∙ h in
          subst (λ slot. Each (λ w. w.1 ≡ Done (done_value w.1)) (from slot)) (sym e) (refl, more (Done value) (next_done value) none)
      by (Err fault) e h more =
          let none : Some (value_fault v.number v.key fault) ≡ None = sym (ap (λ slot. first_own_fault (from slot)) e) ∙ h in
          cc

pub unfaulted_done : (model : Model) (input : Cells) → UnfaultedAreDone model input
unfaulted_done model input h =
    all_of (λ (w : Version × Slot). w.1 ≡ Done (done_value w.1)) (history model input)
    (done_from model (keys_of input) (versions model (keys_of input)) (given_slots input) (λ c. refl) h)
