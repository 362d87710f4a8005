-- The kept form of a history, its keys and its slots.
use Rattle.std.proofs.Common.{◌≡◌, ℕ, ◌-◌, Bool, true, false, ◌&&◌, List, [], ◌∷◌, ◌++◌, cond, length, map, Option, Some, None, slice_get, Result, Ok, Err, IfOk, Ordering, Less, Equal, Greater, refl, sym, ap, subst, ◌∙◌, arith, eqb}
use Rattle.std.specs.Prelude.{unsigned_abs}
use Rattle.std.specs.BTreeSet.{insert_key}
use Rattle.std.specs.List.{find, flat_map}
use Rattle.std.specs.Ordering.{match_ordering}
use Rattle.std.proofs.lemmas.List.{length-append}
use Rattle.std.specs.List.Sorted.{IsStrictlySortedBy}
use Rattle.std.specs.Map.{keys_of}
use Rattle.std.specs.Option.{option_map, option_map_or}
use Rattle.std.proofs.lemmas.Bool.{and_from, and_parts, eq-eqb}
use Rattle.mq_values.specs.Order.{cmp_key}
use Rattle.mq_values.specs.declared.value.Value.{Value}
use Rattle.mq_values.specs.declared.value.Value.TheVariants as value
use Rattle.mq_ir.specs.declared.query.CellName.{CellName}
use Rattle.mq_ir.specs.declared.query.Rule.{Rule}
use Rattle.mq_ir.specs.declared.query.Slot.{Slot}
use Rattle.mq_ir.specs.declared.query.Slot.TheVariants.{Poisoned}
use Rattle.mq_ir.specs.CreatedLaws.{created_long}
use Rattle.mq_ir.specs.EachLaws.{Each, all_of, each_append, each_in, each_mapped}
use Rattle.mq_ir.specs.Expression.{whole}
use Rattle.mq_ir.specs.Histories.{given_slots, history, node_slot, slots_from, version_slot, with_slot}
use Rattle.mq_ir.specs.Keys.{Tuple, is_among, is_same}
use Rattle.mq_ir.specs.KeptHistories.{is_kept_at, kept_key, kept_left, kept_slots, kept_versions}
use Rattle.mq_ir.specs.Partitions.{Cells}
use Rattle.mq_ir.specs.Placed.{Placed}
use Rattle.mq_ir.specs.Ready.{HaveLength}
use Rattle.mq_ir.specs.Slots.{Slots}
use Rattle.mq_ir.specs.Unfolding.{Model}
use Rattle.mq_ir.specs.VersionLooks.{VersionName, Made, is_same_name, name_of}
use Rattle.mq_ir.specs.Versions.{LeftAct, LeftAt, Version, act_fault, act_of, act_versions, all_lefts, ended_by, version_of, versions, walk_from, with_keys}
use Rattle.mq_change_laws.specs.KeyLaws.{each_among, each_map, same_itself}
use Rattle.mq_change_laws.specs.ReachLaws.{told_alike}
use Rattle.mq_change_laws.specs.SoundLaws.{same_is}
use Rattle.mq_version_laws.specs.KeptLaws.{HistoryTellsItsVersions, KeptApart, KeptKeyTells, KeptSlotsAreSlots, LeftsAreWide, NothingKeptElsewhere, VersionsAreWide, kept_name}
use Rattle.mq_version_laws.proofs.HistoryLemmas.{has_versions}
use Rattle.mq_version_laws.proofs.NameLemmas.{Own, name_is, name_itself, once_by, own_names}
use Rattle.mq_version_laws.proofs.ResolveLemmas.{IsRuled}
use Rattle.mq_version_laws.proofs.SoundLemmas.{OnLeft, names_once, rules_are_numbered, versions_ruled}
use Rattle.mq_version_laws.proofs.StandLemmas.{targets_there}
use Rattle.mq_version_laws.proofs.WorthLemmas.{named_by, names_told}

-- ---- the kept left sides tell the versions
module _ (model : Model) where
  abbrev NumberedLeft : LeftAt → Type 0
  NumberedLeft at = slice_get model.part.rules (at.number - 1) ≡ Some at.rule

  kept_tell : (lefts : List (Result LeftAt Placed)) → Each (OnLeft NumberedLeft) lefts → (set : List Tuple)
      → kept_versions model set (map kept_left (walk_from model lefts set).acts) ≡ flat_map act_versions (walk_from model lefts set).acts
  kept_tell [] a set = refl
  kept_tell (Err fault ∷ rest) a set = refl
  kept_tell (Ok at ∷ rest) a set = by (act_fault model act) (kept_tell rest a.1 act.set)
    where
      act : LeftAct
      act = act_of at set

      more : List LeftAct
      more = (walk_from model rest act.set).acts

      by : (o : Option Placed) → kept_versions model act.set (map kept_left more) ≡ flat_map act_versions more
          → kept_versions model set (map kept_left (option_map_or ended_by o (record { acts = act ∷ more; fault = (walk_from model rest act.set).fault })).acts)
          ≡ flat_map act_versions (option_map_or ended_by o (record { acts = act ∷ more; fault = (walk_from model rest act.set).fault })).acts
      by (Some fault) h = refl
      by None h =
          ap (λ o. option_map_or (λ (rule : Rule). map (version_of at.number at.place rule act.set) act.targets) o [] ++ kept_versions model act.set (map kept_left more)) a.0
          ∙ ap (λ l. act_versions act ++ l) h

pub history_tells : (model : Model) (keys : List Tuple) → HistoryTellsItsVersions model keys
history_tells model keys = kept_tell model (all_lefts model) (rules_are_numbered model) keys

-- ---- the key of a version and its numbers
two_behind : (xs ys : Tuple) (a b c d : Value) → xs ++ a ∷ b ∷ [] ≡ ys ++ c ∷ d ∷ [] → (xs ≡ ys) × (a ≡ c) × (b ≡ d)
two_behind [] [] a b c d h =
    let first : a ≡ c = cc in
    let second : b ≡ d = cc in
    (refl, first, second)
two_behind [] (y ∷ []) a b c d h = cc
two_behind [] (y ∷ z ∷ []) a b c d h = cc
two_behind [] (y ∷ z ∷ w ∷ ys) a b c d h = cc
two_behind (x ∷ []) [] a b c d h = cc
two_behind (x ∷ z ∷ []) [] a b c d h = cc
two_behind (x ∷ z ∷ w ∷ xs) [] a b c d h = cc
two_behind (x ∷ xs) (y ∷ ys) a b c d h =
    let first : x ≡ y = cc in
    let behind : xs ++ a ∷ b ∷ [] ≡ ys ++ c ∷ d ∷ [] = cc in
    let rest = two_behind xs ys a b c d behind in
    let list : xs ≡ ys = rest.0 in
    ((λ i. first i ∷ list i), rest.1, rest.2)

size_of : Value → ℕ
size_of (value.Num n) = unsigned_abs n.mant
size_of _ = 0

whole_tells : (m n : ℕ) → whole m ≡ whole n → m ≡ n
unfolding size_of
whole_tells m n h = ap size_of h

pub kept_tells : (a b : VersionName) → KeptKeyTells a b
kept_tells a b h =
    let parts = two_behind a.key b.key (whole a.number) (whole a.place) (whole b.number) (whole b.place) h in
    let key : a.key ≡ b.key = parts.0 in
    let number : a.number ≡ b.number = whole_tells a.number b.number parts.1 in
    let place : a.place ≡ b.place = whole_tells a.place b.place parts.2 in
    λ i. record { number = number i; place = place i; key = key i }

-- ---- what is kept at a version
abbrev pub IsKept : Model → Cells → Version → Type 0
IsKept model input v = kept_slots model input (kept_name v) ≡ Some (node_slot model input (Made (name_of v)))

module _ (model : Model) where
  slots_each : (P : Version → Type 0) (keys : List Tuple) (vs : List Version) (slots : Slots) → Each P vs
      → Each (λ w. P w.0) (slots_from model keys vs slots)
  slots_each P keys [] slots a = tt
  slots_each P keys (v ∷ vs) slots a = (a.0, slots_each P keys vs (with_slot slots v (version_slot model keys v slots)) a.1)

  -- a version is kept where it is named, as versions of one name are by one rule
  kept_by_name : (v w : Version) → IsRuled model v → IsRuled model w → is_kept_at (kept_name v) w ≡ is_same_name (name_of v) (name_of w)
  kept_by_name v w r q = told_alike (is_kept_at (kept_name v) w) (is_same_name (name_of v) (name_of w)) there back
    where
      there : is_kept_at (kept_name v) w ≡ true → is_same_name (name_of v) (name_of w) ≡ true
      there h =
          let both = and_parts (is_same (kept_key (name_of v)) (kept_key (name_of w))) (eqb v.rule.measure w.rule.measure) h in
          ap (is_same_name (name_of v)) (sym (kept_tells (name_of v) (name_of w) (same_is (kept_key (name_of v)) (kept_key (name_of w)) both.0)))
          ∙ name_itself (name_of v)

      told : Some v.rule ≡ Some w.rule → v.rule ≡ w.rule
      told e = cc

      back : is_same_name (name_of v) (name_of w) ≡ true → is_kept_at (kept_name v) w ≡ true
      back h =
          let name : name_of v ≡ name_of w = name_is (name_of v) (name_of w) h in
          let rule : v.rule ≡ w.rule = told (sym r ∙ ap (λ (n : VersionName). slice_get model.part.rules (n.number - 1)) name ∙ q) in
          and_from (is_same (kept_key (name_of v)) (kept_key (name_of w))) (eqb v.rule.measure w.rule.measure)
          (ap (λ n. is_same (kept_key (name_of v)) (kept_key n)) (sym name) ∙ same_itself (kept_key (name_of v)))
          (eq-eqb v.rule.measure w.rule.measure (ap (λ (x : Rule). x.measure) rule))

  found_alike : {A : Type 0} (p q : A → Bool) (xs : List A) → Each (λ x. p x ≡ q x) xs → find p xs ≡ find q xs
  found_alike p q [] a = refl
  found_alike p q (x ∷ xs) a = λ i. cond (a.0 i) (Some x) (found_alike p q xs a.1 i)

  module _ (input : Cells) (s : IsStrictlySortedBy cmp_key (keys_of input)) where
    abbrev all : List (Version × Slot)
    all = history model input

    ruled : Each (λ w. IsRuled model w.0) all
    ruled = slots_each (IsRuled model) (keys_of input) (versions model (keys_of input)) (given_slots input) (versions_ruled model (keys_of input))

    own : Each (Own named_by all) all
    own =
        own_names named_by all
        (once_by name_of named_by (versions model (keys_of input)) all
        (names_told model (keys_of input) (versions model (keys_of input)) (given_slots input)) (names_once model (keys_of input) s))

    kept_one : (w : Version × Slot) → Own named_by all w → IsRuled model w.0 → IsKept model input w.0
    kept_one w o r =
        ap (option_map (λ (x : Version × Slot). x.1))
        (found_alike (λ x. is_kept_at (kept_name w.0) x.0) (λ x. is_same_name (name_of w.0) (name_of x.0)) all
        (each_map (λ (x : Version × Slot). IsRuled model x.0) (λ x. is_kept_at (kept_name w.0) x.0 ≡ is_same_name (name_of w.0) (name_of x.0))
        (λ x q. kept_by_name w.0 x.0 r q) all ruled))
        ∙ ap (option_map (λ (x : Version × Slot). x.1)) o
        ∙ sym (ap (λ o. Some (option_map_or (λ (x : Version × Slot). x.1) o Poisoned)) o)

    kept_each : (ws : List (Version × Slot)) → Each (Own named_by all) ws → Each (λ w. IsRuled model w.0) ws
        → Each (λ w. IsKept model input w.0) ws
    kept_each [] o r = tt
    kept_each (w ∷ ws) o r = (kept_one w o.0 r.0, kept_each ws o.1 r.1)

    pub kept_are : Each (IsKept model input) (versions model (keys_of input))
    kept_are =
        subst (Each (IsKept model input)) (has_versions model input)
        (each_mapped (IsKept model input) (λ (w : Version × Slot). w.0) (λ w. IsKept model input w.0) (λ w k. k) all (kept_each all own ruled))

pub kept_slots_are : (model : Model) (input : Cells) → KeptSlotsAreSlots model input
kept_slots_are model input s =
    all_of (IsKept model input) (versions model (keys_of input)) (kept_are model input s)

-- ---- what is kept where no version is
nothing_found : {A : Type 0} (p : A → Bool) (xs : List A) → Each (λ x. p x ≡ false) xs → find p xs ≡ None
nothing_found p [] a = refl
nothing_found p (x ∷ xs) a = ap (λ b. cond b (Some x) (find p xs)) a.0 ∙ nothing_found p xs a.1

kept_nowhere : (model : Model) (input : Cells) (c : CellName) → Each (λ v. is_kept_at c v ≡ false) (versions model (keys_of input))
    → kept_slots model input c ≡ None
kept_nowhere model input c a =
    ap (option_map (λ (x : Version × Slot). x.1))
    (nothing_found (λ x. is_kept_at c x.0) (history model input)
    (slots_each model (λ v. is_kept_at c v ≡ false) (keys_of input) (versions model (keys_of input)) (given_slots input) a))

pub nothing_elsewhere : (model : Model) (input : Cells) (c : CellName) → NothingKeptElsewhere model input c
nothing_elsewhere model input c h = kept_nowhere model input c (each_in (λ v. is_kept_at c v ≡ false) (versions model (keys_of input)) h)

-- ---- widths
module _ (n : ℕ) (model : Model) where
  abbrev Wide : Result LeftAt Placed → Type 0
  Wide left = IfOk left (λ at. length at.left.places ≡ n)

  inserted_wide : (keys set : List Tuple) → Each (λ key. length key ≡ n) keys → Each (λ key. length key ≡ n) set
      → Each (λ key. length key ≡ n) (with_keys set keys)
  inserted_wide [] set a b = b
  inserted_wide (k ∷ keys) set a b = inserted_wide keys (insert_key cmp_key set k) a.1 (inserted set b)
    where
      inserted : (set : List Tuple) → Each (λ key. length key ≡ n) set → Each (λ key. length key ≡ n) (insert_key cmp_key set k)
      inserted [] b = (a.0, tt)
      inserted (x ∷ xs) b = by (cmp_key k x) (inserted xs b.1)
        where
          by : (r : Ordering) → Each (λ key. length key ≡ n) (insert_key cmp_key xs k)
              → Each (λ key. length key ≡ n) (match_ordering r (k ∷ x ∷ xs) (x ∷ xs) (x ∷ insert_key cmp_key xs k))
          by Less rest = (a.0, b)
          by Equal rest = b
          by Greater rest = (b.0, rest)

  acts_wide : (lefts : List (Result LeftAt Placed)) → Each Wide lefts → (set : List Tuple) → Each (λ key. length key ≡ n) set
      → Each (λ v. length v.key ≡ n) (flat_map act_versions (walk_from model lefts set).acts)
  acts_wide [] w set a = tt
  acts_wide (Err fault ∷ rest) w set a = tt
  acts_wide (Ok at ∷ rest) w set a = by (act_fault model act) (acts_wide rest w.1 act.set grown)
    where
      act : LeftAct
      act = act_of at set

      grown : Each (λ key. length key ≡ n) act.set
      grown = inserted_wide act.created set (each_in _ act.created (created_long at.left n w.0 at.rule.mode set (all_of _ set a))) a

      here : Each (λ v. length v.key ≡ n) (act_versions act)
      here =
          each_mapped (λ (v : Version). length v.key ≡ n) (version_of at.number at.place at.rule act.set) (λ t. is_among act.set t ≡ true)
          (λ t there. each_among (λ key. length key ≡ n) act.set grown t there) act.targets (targets_there at set)

      by : (o : Option Placed) → Each (λ v. length v.key ≡ n) (flat_map act_versions (walk_from model rest act.set).acts)
          → Each (λ v. length v.key ≡ n)
          (flat_map act_versions (option_map_or ended_by o (record { acts = act ∷ (walk_from model rest act.set).acts; fault = (walk_from model rest act.set).fault })).acts)
      by (Some fault) r = tt
      by None r = each_append (λ (v : Version). length v.key ≡ n) (act_versions act) (flat_map act_versions (walk_from model rest act.set).acts) here r

  each_wide : (keys : List Tuple) → LeftsAreWide n model → HaveLength n keys → Each (λ v. length v.key ≡ n) (versions model keys)
  each_wide keys w h = acts_wide (all_lefts model) (each_in Wide (all_lefts model) w) keys (each_in (λ key. length key ≡ n) keys h)

  pub versions_wide : (keys : List Tuple) → VersionsAreWide n model keys
  versions_wide keys w h = all_of (λ (v : Version). length v.key ≡ n) (versions model keys) (each_wide keys w h)

  -- a kept key is longer than that of a cell
  kept_longer : (c : CellName) (v : Version) → length c.key ≡ n → length v.key ≡ n → is_kept_at c v ≡ false
  kept_longer c v h w = by (is_same c.key (kept_key (name_of v))) refl
    where
      by : (b : Bool) → is_same c.key (kept_key (name_of v)) ≡ b → (b && eqb c.measure v.rule.measure) ≡ false
      by false e = refl
      by true e =
          let is : length c.key ≡ length (kept_key (name_of v)) = ap length (same_is c.key (kept_key (name_of v)) e) in
          let long = length-append v.key (whole v.number ∷ whole v.place ∷ []) in
          absurd (omega (arith, is, long, h, w))

  pub kept_apart : (input : Cells) (c : CellName) → KeptApart n model input c
  kept_apart input c w h long =
      kept_nowhere model input c
      (each_map (λ (v : Version). length v.key ≡ n) (λ v. is_kept_at c v ≡ false) (λ v wide. kept_longer c v long wide)
      (versions model (keys_of input)) (each_wide (keys_of input) w h))
