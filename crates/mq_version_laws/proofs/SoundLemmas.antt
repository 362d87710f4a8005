-- The versions over keys that ascend: each has a name of its own, by a rule of the model, over cells that ascend.
use Rattle.std.proofs.Common.{◌≡◌, ℕ, suc, ◌+◌, ◌-◌, ◌<◌, ◌≤◌, Bool, true, false, ◌&&◌, List, [], ◌∷◌, ◌++◌, map, Option, Some, None, slice_get, Result, Ok, Err, refl, ap, ◌∙◌, arith, eqb}
use Rattle.std.specs.List.{enumerate_from, flat_map, list_any}
use Rattle.std.specs.List.Sorted.{IsStrictlySortedBy}
use Rattle.std.specs.Option.{option_map_or}
use Rattle.std.proofs.lemmas.Bool.{or_from}
use Rattle.mq_values.specs.Order.{cmp_key}
use Rattle.mq_values.specs.declared.faults.FaultKind.{FaultKind}
use Rattle.mq_ir.specs.declared.query.Rule.{Rule}
use Rattle.mq_ir.specs.declared.query.SingleLeft.{SingleLeft}
use Rattle.mq_ir.specs.EachLaws.{Each, all_of, each_append, each_mapped}
use Rattle.mq_ir.specs.Keys.{Tuple, is_among, is_same}
use Rattle.mq_ir.specs.Placed.{Placed}
use Rattle.mq_ir.specs.Unfolding.{Model, unfold_rule}
use Rattle.mq_ir.specs.VersionLooks.{VersionName, is_same_name, name_of}
use Rattle.mq_ir.specs.Versions.{LeftAct, LeftAt, Version, act_fault, act_of, act_versions, all_lefts, ended_by, left_at, left_walk, lefts_of_rule, lefts_or_fault, version_of, versions, walk_from}
use Rattle.mq_change_laws.specs.AscentLaws.{strict_distinct}
use Rattle.mq_change_laws.specs.KeyLaws.{any_append, each_map}
use Rattle.mq_change_laws.specs.OnceLaws.{Distinct, targets_once}
use Rattle.mq_version_laws.specs.HistoryLaws.{VersionsAreSound}
use Rattle.mq_version_laws.proofs.CellLemmas.{strict_with}
use Rattle.mq_version_laws.proofs.NameLemmas.{Once, has_name, name_is, own_names}
use Rattle.mq_version_laws.proofs.StandLemmas.{targets_there}
use Rattle.std.proofs.lemmas.Bool.{or_parts}

-- ---- what holds of the single left sides of the rules holds of those that act
abbrev pub OnLeft : (LeftAt → Type 0) → Result LeftAt Placed → Type 0
OnLeft P (Ok at) = P at
OnLeft P (Err fault) = Unit {0}

on_left : (P Q : LeftAt → Type 0) → ((at : LeftAt) → P at → Q at) → (x : Result LeftAt Placed) → OnLeft P x → OnLeft Q x
on_left P Q f (Ok at) p = f at p
on_left P Q f (Err fault) p = tt

-- two single left sides that are not at one place of one rule
abbrev Other : LeftAt → LeftAt → Type 0
Other a b = a.number ≡ b.number → a.place ≡ b.place → true ≡ false

abbrev Apart : List (Result LeftAt Placed) → Type 0
Apart [] = Unit {0}
Apart (Ok at ∷ rest) = Each (OnLeft (Other at)) rest × Apart rest
Apart (Err fault ∷ rest) = Apart rest

abbrev ActsApart : List LeftAct → Type 0
ActsApart [] = Unit {0}
ActsApart (act ∷ rest) = Each (λ b. Other act.at b.at) rest × ActsApart rest

-- a left side at work over cells that ascend
record IsAct (act : LeftAct) : Type 0 where
  ascend : IsStrictlySortedBy cmp_key act.set
  once : Distinct act.targets
  there : Each (λ t. is_among act.set t ≡ true) act.targets

module _ (model : Model) where
  walk_each : (P : LeftAt → Type 0) (lefts : List (Result LeftAt Placed)) → Each (OnLeft P) lefts → (set : List Tuple)
      → Each (λ act. P act.at) (walk_from model lefts set).acts
  walk_each P [] a set = tt
  walk_each P (Err fault ∷ rest) a set = tt
  walk_each P (Ok at ∷ rest) a set = by (act_fault model act) (walk_each P rest a.1 act.set)
    where
      act : LeftAct
      act = act_of at set

      by : (o : Option Placed) → Each (λ act. P act.at) (walk_from model rest act.set).acts
          → Each (λ act. P act.at) (option_map_or ended_by o (record { acts = act ∷ (walk_from model rest act.set).acts; fault = (walk_from model rest act.set).fault })).acts
      by (Some fault) r = tt
      by None r = (a.0, r)

  walk_apart : (lefts : List (Result LeftAt Placed)) → Apart lefts → (set : List Tuple) → ActsApart (walk_from model lefts set).acts
  walk_apart [] a set = tt
  walk_apart (Err fault ∷ rest) a set = tt
  walk_apart (Ok at ∷ rest) a set = by (act_fault model act) (walk_each (Other at) rest a.0 act.set) (walk_apart rest a.1 act.set)
    where
      act : LeftAct
      act = act_of at set

      by : (o : Option Placed) → Each (λ b. Other at b.at) (walk_from model rest act.set).acts
          → ActsApart (walk_from model rest act.set).acts
          → ActsApart (option_map_or ended_by o (record { acts = act ∷ (walk_from model rest act.set).acts; fault = (walk_from model rest act.set).fault })).acts
      by (Some fault) e r = tt
      by None e r = (e, r)

  walk_acts : (lefts : List (Result LeftAt Placed)) (set : List Tuple) → IsStrictlySortedBy cmp_key set
      → Each IsAct (walk_from model lefts set).acts
  walk_acts [] set s = tt
  walk_acts (Err fault ∷ rest) set s = tt
  walk_acts (Ok at ∷ rest) set s = by (act_fault model act) (walk_acts rest act.set grown)
    where
      act : LeftAct
      act = act_of at set

      grown : IsStrictlySortedBy cmp_key act.set
      grown = strict_with act.created set s

      here : IsAct act
      here = record { ascend = grown; once = targets_once at.left at.rule.mode set (strict_distinct set s); there = targets_there at set }

      by : (o : Option Placed) → Each IsAct (walk_from model rest act.set).acts
          → Each IsAct (option_map_or ended_by o (record { acts = act ∷ (walk_from model rest act.set).acts; fault = (walk_from model rest act.set).fault })).acts
      by (Some fault) r = tt
      by None r = (here, r)

  -- ---- the places of the single left sides
  later_places : (number : ℕ) (rule : Rule) (k n : ℕ) (lefts : List SingleLeft) → k ≤ n
      → Each (OnLeft (λ at. k ≤ at.place)) (map (left_at number rule) (enumerate_from n lefts))
  later_places number rule k n [] h = tt
  later_places number rule k n (l ∷ ls) h = (h, later_places number rule k (n + 1) ls (omega (arith, h)))

  places_apart : (number : ℕ) (rule : Rule) (n : ℕ) (lefts : List SingleLeft) → Apart (map (left_at number rule) (enumerate_from n lefts))
  places_apart number rule n [] = tt
  places_apart number rule n (l ∷ ls) = (
    each_map (OnLeft (λ at. n + 1 ≤ at.place)) (OnLeft (Other (record { number = number; place = n; rule = rule; left = l })))
        (on_left (λ at. n + 1 ≤ at.place) (Other (record { number = number; place = n; rule = rule; left = l })) (λ at le e f. absurd (omega (arith, le, f))))
        (map (left_at number rule) (enumerate_from (n + 1) ls)) (later_places number rule (n + 1) (n + 1) ls (omega arith)),
    places_apart number rule (n + 1) ls,
  )

  rule_apart : (number : ℕ) (rule : Rule) (r : Result (List SingleLeft) FaultKind) → Apart (lefts_or_fault number rule r)
  rule_apart number rule (Ok lefts) = places_apart number rule 0 lefts
  rule_apart number rule (Err kind) = tt

  -- what holds of each single left side of a rule
  rule_each : (P : LeftAt → Type 0) (number : ℕ) (rule : Rule)
      → ((place : ℕ) (left : SingleLeft) → P (record { number = number; place = place; rule = rule; left = left }))
      → (r : Result (List SingleLeft) FaultKind) → Each (OnLeft P) (lefts_or_fault number rule r)
  rule_each P number rule h (Err kind) = (tt, tt)
  rule_each P number rule h (Ok lefts) = counted 0 lefts
    where
      counted : (n : ℕ) (lefts : List SingleLeft) → Each (OnLeft P) (map (left_at number rule) (enumerate_from n lefts))
      counted n [] = tt
      counted n (l ∷ ls) = (h n l, counted (n + 1) ls)

  later_rules : (k n : ℕ) (rules : List Rule) → k ≤ n
      → Each (OnLeft (λ at. k ≤ at.number)) (flat_map (lefts_of_rule model) (enumerate_from n rules))
  later_rules k n [] h = tt
  later_rules k n (rule ∷ rules) h =
      each_append (OnLeft (λ at. k ≤ at.number)) (lefts_of_rule model (n, rule)) (flat_map (lefts_of_rule model) (enumerate_from (n + 1) rules))
      (rule_each (λ at. k ≤ at.number) n rule (λ place left. h) (unfold_rule model rule 0)) (later_rules k (n + 1) rules (omega (arith, h)))

  append_apart : (n : ℕ) (xs ys : List (Result LeftAt Placed)) → Apart xs → Apart ys → Each (OnLeft (λ at. at.number ≡ n)) xs
      → Each (OnLeft (λ at. n + 1 ≤ at.number)) ys → Apart (xs ++ ys)
  append_apart n [] ys a b e l = b
  append_apart n (Err fault ∷ xs) ys a b e l = append_apart n xs ys a b e.1 l
  append_apart n (Ok at ∷ xs) ys a b e l = (
    each_append (OnLeft (Other at)) xs ys a.0
        (each_map (OnLeft (λ b. n + 1 ≤ b.number)) (OnLeft (Other at))
        (on_left (λ b. n + 1 ≤ b.number) (Other at) (λ b le f g. let is : at.number ≡ n = e.0 in absurd (omega (arith, le, f, is)))) ys l),
    append_apart n xs ys a.1 b e.1 l,
  )

  rules_apart : (n : ℕ) (rules : List Rule) → Apart (flat_map (lefts_of_rule model) (enumerate_from n rules))
  rules_apart n [] = tt
  rules_apart n (rule ∷ rules) =
      append_apart n (lefts_of_rule model (n, rule)) (flat_map (lefts_of_rule model) (enumerate_from (n + 1) rules))
      (rule_apart n rule (unfold_rule model rule 0)) (rules_apart (n + 1) rules)
      (rule_each (λ at. at.number ≡ n) n rule (λ place left. refl) (unfold_rule model rule 0)) (later_rules (n + 1) (n + 1) rules (omega arith))

  -- each is of the rule of its number
  rules_numbered : (n : ℕ) (rules : List Rule) → 0 < n → ((i : ℕ) → slice_get model.part.rules (n - 1 + i) ≡ slice_get rules i)
      → Each (OnLeft (λ at. slice_get model.part.rules (at.number - 1) ≡ Some at.rule)) (flat_map (lefts_of_rule model) (enumerate_from n rules))
  rules_numbered n [] p same = tt
  rules_numbered n (rule ∷ rules) p same =
      let here : n - 1 ≡ n - 1 + 0 = omega arith in
      let is : slice_get model.part.rules (n - 1) ≡ Some rule = ap (slice_get model.part.rules) here ∙ same 0 in
      each_append (OnLeft (λ at. slice_get model.part.rules (at.number - 1) ≡ Some at.rule)) (lefts_of_rule model (n, rule))
      (flat_map (lefts_of_rule model) (enumerate_from (n + 1) rules))
      (rule_each (λ at. slice_get model.part.rules (at.number - 1) ≡ Some at.rule) n rule (λ place left. is) (unfold_rule model rule 0))
      (rules_numbered (n + 1) rules (omega arith)
      (λ i. let moved : n + 1 - 1 + i ≡ n - 1 + suc i = omega (arith, p) in ap (slice_get model.part.rules) moved ∙ same (suc i)))

  -- ---- the versions of the acts
  versions_each : (P : Version → Type 0) (Q : LeftAct → Type 0) → ((act : LeftAct) → Q act → Each P (act_versions act))
      → (acts : List LeftAct) → Each Q acts → Each P (flat_map act_versions acts)
  versions_each P Q f [] a = tt
  versions_each P Q f (act ∷ acts) a = each_append P (act_versions act) (flat_map act_versions acts) (f act a.0) (versions_each P Q f acts a.1)

  targets_each : (P : Version → Type 0) (make : Tuple → Version) → ((t : Tuple) → P (make t)) → (ts : List Tuple) → Each P (map make ts)
  targets_each P make f [] = tt
  targets_each P make f (t ∷ ts) = (f t, targets_each P make f ts)

  -- a version that is by another single left side
  abbrev Away : LeftAt → Version → Type 0
  Away at w = at.number ≡ w.number → at.place ≡ w.place → true ≡ false

  unlike : (a b : VersionName) → (a ≡ b → true ≡ false) → is_same_name a b ≡ false
  unlike a b h = by (is_same_name a b) refl
    where
      by : (s : Bool) → is_same_name a b ≡ s → s ≡ false
      by true e = h (name_is a b e)
      by false e = refl

  module _ (act : LeftAct) where
    abbrev made_by : Tuple → Version
    made_by = version_of act.at.number act.at.place act.at.rule act.set

    none_named : (t : Tuple) (ts : List Tuple) → is_among ts t ≡ false
        → list_any (has_name name_of (name_of (made_by t))) (map made_by ts) ≡ false
    none_named t [] h = refl
    none_named t (x ∷ xs) h =
        let both = or_parts (is_same t x) (is_among xs t) h in
        or_from (is_same_name (name_of (made_by t)) (name_of (made_by x))) (list_any (has_name name_of (name_of (made_by t))) (map made_by xs))
        (unkeyed (eqb act.at.number act.at.number && eqb act.at.place act.at.place) (is_same t x) both.0) (none_named t xs both.1)
      where
        unkeyed : (a b : Bool) → b ≡ false → (a && b) ≡ false
        unkeyed true b e = e
        unkeyed false b e = refl

    none_away : (t : Tuple) (others : List Version) → Each (Away act.at) others
        → list_any (has_name name_of (name_of (made_by t))) others ≡ false
    none_away t [] a = refl
    none_away t (w ∷ ws) a =
        or_from (is_same_name (name_of (made_by t)) (name_of w)) (list_any (has_name name_of (name_of (made_by t))) ws)
        (unlike (name_of (made_by t)) (name_of w) (λ e. a.0 (ap (λ n. n.number) e) (ap (λ n. n.place) e))) (none_away t ws a.1)

    once_targets : (ts : List Tuple) (others : List Version) → Distinct ts → Each (Away act.at) others → Once name_of others
        → Once name_of (map made_by ts ++ others)
    once_targets [] others d a o = o
    once_targets (t ∷ ts) others d a o = (
      any_append (has_name name_of (name_of (made_by t))) (map made_by ts) others
          ∙ or_from (list_any (has_name name_of (name_of (made_by t))) (map made_by ts)) (list_any (has_name name_of (name_of (made_by t))) others)
          (none_named t ts d.0) (none_away t others a),
      once_targets ts others d.1 a o,
    )

  once_versions : (acts : List LeftAct) → ActsApart acts → Each IsAct acts → Once name_of (flat_map act_versions acts)
  once_versions [] a e = tt
  once_versions (act ∷ acts) a e =
      once_targets act act.targets (flat_map act_versions acts) e.0.once
      (versions_each (Away act.at) (λ b. Other act.at b.at) (λ b other. targets_each (Away act.at) (made_by b) (λ t. other) b.targets) acts a.0)
      (once_versions acts a.1 e.1)

  module _ (keys : List Tuple) (s : IsStrictlySortedBy cmp_key keys) where
    acts_are : Each IsAct (left_walk model keys).acts
    acts_are = walk_acts (all_lefts model) keys s

    pub names_once : Once name_of (versions model keys)
    names_once = once_versions (left_walk model keys).acts (walk_apart (all_lefts model) (rules_apart 1 model.part.rules) keys) acts_are

    pub sets_ascend : Each (λ v. IsStrictlySortedBy cmp_key v.set) (versions model keys)
    sets_ascend =
        versions_each (λ v. IsStrictlySortedBy cmp_key v.set) IsAct (λ act is. targets_each (λ v. IsStrictlySortedBy cmp_key v.set) (made_by act) (λ t. is.ascend) act.targets)
        (left_walk model keys).acts acts_are

    pub cells_there : Each (λ v. is_among v.set v.key ≡ true) (versions model keys)
    cells_there =
        versions_each (λ v. is_among v.set v.key ≡ true) IsAct
        (λ act is. each_mapped (λ v. is_among v.set v.key ≡ true) (made_by act) (λ t. is_among act.set t ≡ true) (λ t h. h) act.targets is.there)
        (left_walk model keys).acts acts_are

  pub rules_are_numbered : Each (OnLeft (λ at. slice_get model.part.rules (at.number - 1) ≡ Some at.rule)) (all_lefts model)
  rules_are_numbered =
      rules_numbered 1 model.part.rules (omega arith) (λ i. let same : 1 - 1 + i ≡ i = omega arith in ap (slice_get model.part.rules) same)

  pub versions_ruled : (keys : List Tuple) → Each (λ v. slice_get model.part.rules (v.number - 1) ≡ Some v.rule) (versions model keys)
  versions_ruled keys =
      versions_each (λ v. slice_get model.part.rules (v.number - 1) ≡ Some v.rule) (λ act. slice_get model.part.rules (act.at.number - 1) ≡ Some act.at.rule)
      (λ act is. targets_each (λ v. slice_get model.part.rules (v.number - 1) ≡ Some v.rule) (made_by act) (λ t. is) act.targets) (left_walk model keys).acts
      (walk_each (λ at. slice_get model.part.rules (at.number - 1) ≡ Some at.rule) (all_lefts model) rules_are_numbered keys)

pub sound : (model : Model) (keys : List Tuple) → VersionsAreSound model keys
sound model keys s = record {
  own = all_of _ (versions model keys) (own_names name_of (versions model keys) (names_once model keys s));
  ascend = all_of _ (versions model keys) (sets_ascend model keys s);
  there = all_of _ (versions model keys) (cells_there model keys s);
  ruled = all_of _ (versions model keys) (versions_ruled model keys);
}
