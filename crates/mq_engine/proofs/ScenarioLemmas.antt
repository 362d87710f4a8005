-- The scenarios of a session: their names, and the changes that they have.
use Rattle.std.proofs.Common.{◌≡◌, ℕ, zero, suc, ◌<◌, ◌≤◌, List, [], ◌∷◌, ◌++◌, Bool, true, false, ◌||◌, take, get_or, length, Option, Some, None, Result, Ok, Err, OnOk, OnErr, refl, sym, ap, ◌∙◌, subst, arith, length-append}
use Rattle.std.specs.Prelude.{if◌then◌else◌}
use Rattle.std.specs.List.{All, filter, find, list_any}
use Rattle.std.specs.Option.{option_map_or}
use Rattle.std.proofs.lemmas.List.Elements.{All-cons, All-filter, All-head, All-nil, All-push, All-tail}
use Rattle.std.proofs.lemmas.List.Folds.{list_any-append}
use Rattle.mq_values.specs.declared.limits.TheConstants.{MAX_SCENARIO_CHANGES}
use Rattle.mq_values.specs.declared.memory.Memory.{Memory}
use Rattle.mq_ir.specs.declared.catalog.Scenario.{Scenario}
use Rattle.mq_ir.specs.declared.statement.Change.{Change}
use Rattle.mq_ir.specs.NamedItems.{has_name}
use Rattle.mq_ir.specs.Tables.{is_name}
use Rattle.mq_engine.specs.Scenarios.{HaveOwnNames, IsBounded, MayStand, changes_under, longer, with_change}
use Rattle.mq_answers.specs.FoundLaws.{all_found}
use Rattle.mq_engine.proofs.NameLemmas.{name_is}

either : (a b : Bool) → (a || b) ≡ false → (a ≡ false) × (b ≡ false)
either true b h = absurd (cc)
either false b h = (refl, h)

none_at : {A : Type 0} (p : A → Bool) (xs : List A) (i : ℕ) (d : A) → list_any p xs ≡ false → i < length xs → p (get_or xs i d) ≡ false
none_at p [] i d h l = absurd (omega arith)
none_at p (x ∷ xs) zero d h l = (either (p x) (list_any p xs) h).0
none_at p (x ∷ xs) (suc i) d h l = none_at p xs i d (either (p x) (list_any p xs) h).1 (omega arith)

none_filtered : {A : Type 0} (keep p : A → Bool) (xs : List A) → list_any p xs ≡ false → list_any p (filter keep xs) ≡ false
none_filtered keep p [] h = refl
none_filtered keep p (x ∷ xs) h = let e = either (p x) (list_any p xs) h in by (keep x) e.0 (none_filtered keep p xs e.1)
  where
    by : (b : Bool) → p x ≡ false → list_any p (filter keep xs) ≡ false → list_any p (if b then x ∷ filter keep xs else filter keep xs) ≡ false
    by true e k = ap (λ (b : Bool). b || list_any p (filter keep xs)) e ∙ k
    by false e k = k

-- ---- a scenario is put behind the others
own_put : (ss : List Scenario) (s : Scenario) → HaveOwnNames ss → has_name (λ (s : Scenario). s.name) ss s.name ≡ false → HaveOwnNames (ss ++ s ∷ [])
own_put [] s h n = (refl, tt)
own_put (x ∷ xs) s h n =
    let e = either (is_name x.name s.name) (has_name (λ (s : Scenario). s.name) xs s.name) n in (
      list_any-append (λ (other : Scenario). is_name x.name other.name) xs (s ∷ [])
          ∙ ap (λ (b : Bool). b || (is_name x.name s.name || false)) h.0
          ∙ ap (λ (b : Bool). b || false) e.0,
      own_put xs s h.1 e.1,
    )

put_stands : (ss after : List Scenario) (s : Scenario) → after ≡ ss ++ s ∷ [] → MayStand ss → has_name (λ (s : Scenario). s.name) ss s.name ≡ false → s.changes ≡ [] → MayStand after
put_stands ss after s a h n e =
    let none : IsBounded s = omega (arith, ap length e) in
    subst MayStand (sym a) (record { own = own_put ss s h.own n; bounded = All-push IsBounded ss s h.bounded none })

pub put_or_not : (r : Result (Unit {0}) Memory) (ss after : List Scenario) (s : Scenario) → OnOk r (after ≡ ss ++ s ∷ []) → OnErr r (after ≡ ss)
    → MayStand ss → has_name (λ (s : Scenario). s.name) ss s.name ≡ false → s.changes ≡ [] → MayStand after
put_or_not (Ok u) ss after s a b h n e = put_stands ss after s a h n e
put_or_not (Err wanted) ss after s a b h n e = subst MayStand (sym b) h

-- ---- scenarios are taken away
own_kept : (keep : Scenario → Bool) (ss : List Scenario) → HaveOwnNames ss → HaveOwnNames (filter keep ss)
own_kept keep [] h = tt
own_kept keep (x ∷ xs) h = by (keep x) (own_kept keep xs h.1)
  where
    by : (b : Bool) → HaveOwnNames (filter keep xs) → HaveOwnNames (if b then x ∷ filter keep xs else filter keep xs)
    by true k = (none_filtered keep (λ (other : Scenario). is_name x.name other.name) xs h.0, k)
    by false k = k

pub kept_stand : (keep : Scenario → Bool) (ss after : List Scenario) → after ≡ filter keep ss → MayStand ss → MayStand after
kept_stand keep ss after a h = subst MayStand (sym a) (record { own = own_kept keep ss h.own; bounded = All-filter keep IsBounded ss h.bounded })

-- ---- a scenario takes a change in
module _ (name : List ℕ) (change : Change) where
  name_stays : (s : Scenario) → (longer name change s).name ≡ s.name
  name_stays s = by (is_name name s.name)
    where
      by : (b : Bool) → (if b then record s { changes = s.changes ++ change ∷ [] } else s).name ≡ s.name
      by true = refl
      by false = refl

  -- of the names only
  names_stay : (p : List ℕ → Bool) (ss : List Scenario) → list_any (λ (s : Scenario). p s.name) (with_change ss name change) ≡ list_any (λ (s : Scenario). p s.name) ss
  names_stay p [] = refl
  names_stay p (s ∷ ss) = λ i. p (name_stays s i) || names_stay p ss i

  own_longer : (ss : List Scenario) → HaveOwnNames ss → HaveOwnNames (with_change ss name change)
  own_longer [] h = tt
  own_longer (s ∷ ss) h = (
    ap (λ n. list_any (λ (other : Scenario). is_name n other.name) (with_change ss name change)) (name_stays s) ∙ names_stay (is_name s.name) ss ∙ h.0,
    own_longer ss h.1,
  )

  -- scenarios of other names are as they were
  untouched : (ss : List Scenario) → list_any (λ (s : Scenario). is_name name s.name) ss ≡ false → with_change ss name change ≡ ss
  untouched [] h = refl
  untouched (s ∷ ss) h =
      let e = either (is_name name s.name) (list_any (λ (s : Scenario). is_name name s.name) ss) h in
      λ i. (if e.0 i then record s { changes = s.changes ++ change ∷ [] } else s) ∷ untouched ss e.1 i

  bounded_longer : (ss : List Scenario) → HaveOwnNames ss → All IsBounded ss → length (changes_under ss name) < MAX_SCENARIO_CHANGES → All IsBounded (with_change ss name change)
  bounded_longer [] own h l = All-nil IsBounded
  bounded_longer (s ∷ ss) own h l = by (is_name name s.name) refl (bounded_longer ss own.1 (All-tail IsBounded s ss h)) l
    where
      by : (b : Bool) → is_name name s.name ≡ b → (length (changes_under ss name) < MAX_SCENARIO_CHANGES → All IsBounded (with_change ss name change))
          → length (option_map_or (λ (s : Scenario). s.changes) (if b then Some s else find (λ (s : Scenario). is_name name s.name) ss) []) < MAX_SCENARIO_CHANGES
          → All IsBounded ((if b then record s { changes = s.changes ++ change ∷ [] } else s) ∷ with_change ss name change)
      by true e rest g =
          let longest : Scenario = record s { changes = s.changes ++ change ∷ [] } in
          let room : IsBounded longest = omega (arith, length-append s.changes (change ∷ [])) in
          let others : with_change ss name change ≡ ss = untouched ss (ap (λ n. list_any (λ (other : Scenario). is_name n other.name) ss) (name_is name s.name e) ∙ own.0) in
          All-cons IsBounded longest (with_change ss name change) room (subst (All IsBounded) (sym others) (All-tail IsBounded s ss h))
      by false e rest g = All-cons IsBounded s (with_change ss name change) (All-head IsBounded s ss h) (rest g)

  pub longer_stand : (ss after : List Scenario) → after ≡ with_change ss name change → MayStand ss → length (changes_under ss name) < MAX_SCENARIO_CHANGES → MayStand after
  longer_stand ss after a h l = subst MayStand (sym a) (record { own = own_longer ss h.own; bounded = bounded_longer ss h.own h.bounded l })

  -- a scenario has another name than those before it
  unlike_earlier : (ss : List Scenario) (i : ℕ) (x : Scenario) → HaveOwnNames ss → i < length ss → x ≡ get_or ss i x → list_any (λ (s : Scenario). is_name s.name x.name) (take i ss) ≡ false
  unlike_earlier [] i x h l e = absurd (omega arith)
  unlike_earlier (s ∷ ss) zero x h l e = refl
  unlike_earlier (s ∷ ss) (suc i) x h l e =
      let apart : is_name s.name x.name ≡ false =
      ap (λ (y : Scenario). is_name s.name y.name) e ∙ none_at (λ (other : Scenario). is_name s.name other.name) ss i x h.0 (omega arith) in
      ap (λ (b : Bool). b || list_any (λ (s : Scenario). is_name s.name x.name) (take i ss)) apart ∙ unlike_earlier ss i x h.1 (omega arith) e

  pub is_new : (ss after : List Scenario) (i : ℕ) (x y : Scenario) → HaveOwnNames ss → i < length ss → x ≡ get_or ss i x → after ≡ with_change (take i ss) name change → y ≡ longer name change x
      → has_name (λ (s : Scenario). s.name) after y.name ≡ false
  is_new ss after i x y h l e a g =
      ap (λ (z : Scenario). has_name (λ (s : Scenario). s.name) after z.name) g
      ∙ ap (has_name (λ (s : Scenario). s.name) after) (name_stays x)
      ∙ ap (λ (zs : List Scenario). has_name (λ (s : Scenario). s.name) zs x.name) a
      ∙ names_stay (λ n. is_name n x.name) (take i ss)
      ∙ unlike_earlier ss i x h l e

-- the changes of a scenario are within the limit
pub under_bounded : (ss : List Scenario) (name : List ℕ) → All IsBounded ss → length (changes_under ss name) ≤ MAX_SCENARIO_CHANGES
under_bounded ss name h = by (find (λ (s : Scenario). is_name name s.name) ss) refl
  where
    by : (o : Option Scenario) → find (λ (s : Scenario). is_name name s.name) ss ≡ o → length (option_map_or (λ (s : Scenario). s.changes) o []) ≤ MAX_SCENARIO_CHANGES
    by None e = omega arith
    by (Some s) e = all_found (λ (s : Scenario). is_name name s.name) IsBounded ss s h e
