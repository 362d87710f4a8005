-- Runs of places, a place more at a time.
use Rattle.std.proofs.Common.{◌≡◌, ℕ, zero, suc, ◌+◌, ◌-◌, ◌<◌, ◌≤◌, List, [], ◌∷◌, ◌++◌, Bool, true, false, drop, get_or, length, refl, sym, subst, ap, ◌∙◌, arith}
use Rattle.std.specs.List.{All, range_with_len}
use Rattle.std.proofs.lemmas.List.{append-nil, append_assoc, drop_more}
use Rattle.mq_values.specs.declared.operators.DimTest.{DimTest}
use Rattle.mq_dim_index.specs.PlaceRuns.{AreRuns, RisesFrom, numbers_in, numbers_of}
use Rattle.mq_dim_index.specs.Places.{Tuple, meets_every, places_from, places_meeting}
use Rattle.mq_dim_index.specs.declared.place_runs.PlaceRun.{PlaceRun}
use Rattle.mq_dim_index.specs.Spans.{IsSpan}
use Rattle.mq_dim_index.proofs.RangeLemmas.{first_fails, first_meets, span_places}

-- ---- the numbers

-- one number more behind a row of them
one_more : (a n : ℕ) → range_with_len a (suc n) ≡ range_with_len a n ++ (a + n) ∷ []
one_more a zero = let e : a ≡ a + 0 = omega arith in ap (λ k. k ∷ []) e
one_more a (suc n) =
    let e : a + 1 + n ≡ a + suc n = omega arith in
    ap (λ l. a ∷ l) (one_more (a + 1) n) ∙ ap (λ k. a ∷ (range_with_len (a + 1) n ++ k ∷ [])) e

numbers_pushed : (runs : List PlaceRun) (run : PlaceRun) → numbers_of (runs ++ run ∷ []) ≡ numbers_of runs ++ numbers_in run
numbers_pushed [] run = append-nil (numbers_in run)
numbers_pushed (r ∷ runs) run = ap (λ l. numbers_in r ++ l) (numbers_pushed runs run) ∙ sym (append_assoc (numbers_in r) (numbers_of runs) (numbers_in run))

-- the run that is next of those that are left
pub one_written : (runs : List PlaceRun) (i : ℕ) (d : PlaceRun) (old new total : List ℕ) → i < length runs → new ≡ old ++ numbers_in (get_or runs i d) →
    old ++ numbers_of (drop i runs) ≡ total → new ++ numbers_of (drop (i + 1) runs) ≡ total
one_written runs i d old new total l is h =
    let rest = numbers_of (drop (i + 1) runs) in
    ap (λ ns. ns ++ rest) is
    ∙ append_assoc old (numbers_in (get_or runs i d)) rest
    ∙ ap (λ (rs : List PlaceRun). old ++ numbers_of rs) (sym (drop_more runs i d l))
    ∙ h

-- a run of one place
abbrev pub alone : ℕ → PlaceRun
alone p = record { first = p; past = p + 1 }

pub numbers_alone : (runs : List PlaceRun) (p : ℕ) → numbers_of (runs ++ alone p ∷ []) ≡ numbers_of runs ++ p ∷ []
numbers_alone runs p =
    let e : p + 1 - p ≡ 1 = omega arith in
    numbers_pushed runs (alone p) ∙ ap (λ n. numbers_of runs ++ range_with_len p n) e

-- a run that one place more has joined
abbrev pub joined : PlaceRun → ℕ → PlaceRun
joined run p = record { first = run.first; past = p + 1 }

pub numbers_joined : (runs : List PlaceRun) (run : PlaceRun) (p : ℕ) → run.past ≡ p → run.first < run.past →
    numbers_of (runs ++ joined run p ∷ []) ≡ numbers_of (runs ++ run ∷ []) ++ p ∷ []
numbers_joined runs run p is l =
    let e : p + 1 - run.first ≡ suc (run.past - run.first) = omega arith in
    let f : run.first + (run.past - run.first) ≡ p = omega arith in
    numbers_pushed runs (joined run p)
    ∙ ap (λ l. numbers_of runs ++ l) (ap (range_with_len run.first) e ∙ one_more run.first (run.past - run.first) ∙ ap (λ k. numbers_in run ++ k ∷ []) f)
    ∙ sym (append_assoc (numbers_of runs) (numbers_in run) (p ∷ []))
    ∙ ap (λ l. l ++ p ∷ []) (sym (numbers_pushed runs run))

-- ---- that they ascend

pub up_to : (runs : List PlaceRun) (low high further : ℕ) → AreRuns low high runs → high ≤ further → AreRuns low further runs
up_to [] low high further h l = omega arith
up_to (r ∷ runs) low high further h l = (h.0, h.1, up_to runs r.past high further h.2 l)

pub apart_alone : (runs : List PlaceRun) (low high p : ℕ) → AreRuns low high runs → high ≤ p → AreRuns low (p + 1) (runs ++ alone p ∷ [])
apart_alone [] low high p h l = (omega arith, omega arith, omega arith)
apart_alone (r ∷ runs) low high p h l = (h.0, h.1, apart_alone runs r.past high p h.2 l)

pub last_filled : (runs : List PlaceRun) (last : PlaceRun) (low high : ℕ) → AreRuns low high (runs ++ last ∷ []) → last.first < last.past
last_filled [] last low high h = h.1
last_filled (r ∷ runs) last low high h = last_filled runs last r.past high h.2

pub apart_joined : (runs : List PlaceRun) (last : PlaceRun) (low high p : ℕ) → AreRuns low high (runs ++ last ∷ []) → last.past ≡ p → AreRuns low (p + 1) (runs ++ joined last p ∷ [])
apart_joined [] last low high p h is =
    let filled = h.1 in
    (h.0, omega arith, omega arith)
apart_joined (r ∷ runs) last low high p h is = (h.0, h.1, apart_joined runs last r.past high p h.2 is)

end_within : (runs : List PlaceRun) (low high : ℕ) → AreRuns low high runs → low ≤ high
end_within [] low high h = h
end_within (r ∷ runs) low high h =
    let first = h.0 in
    let filled = h.1 in
    let rest = end_within runs r.past high h.2 in
    omega arith

pub each_within : (runs : List PlaceRun) (low high : ℕ) → AreRuns low high runs → All (λ run. run.past ≤ high) runs
each_within [] low high h k d l = absurd (omega arith)
each_within (r ∷ runs) low high h zero d l = end_within runs r.past high h.2
each_within (r ∷ runs) low high h (suc k) d l = each_within runs r.past high h.2 k d (omega arith)

-- ---- places that ascend

pub rise_within : (places : List ℕ) (low high : ℕ) → RisesFrom low high places → low ≤ high
rise_within [] low high h = h
rise_within (p ∷ places) low high h =
    let first = h.0 in
    let rest = rise_within places (p + 1) high h.1 in
    omega arith

rise_before : (places : List ℕ) (low high : ℕ) → RisesFrom (low + 1) high places → RisesFrom low high places
rise_before [] low high h = omega arith
rise_before (p ∷ places) low high h =
    let first = h.0 in
    (omega arith, h.1)

pub rise_next : (places : List ℕ) (i d low high : ℕ) → i < length places → RisesFrom low high (drop i places) →
    (low ≤ get_or places i d) × RisesFrom (get_or places i d + 1) high (drop (i + 1) places)
rise_next places i d low high l h = subst (RisesFrom low high) (drop_more places i d l) h

module _ (tests : List DimTest) (keys : List Tuple) (at : ℕ) (key : Tuple) (l : at < length keys) (is : key ≡ get_or keys at key) where
  following : drop at keys ≡ key ∷ drop (at + 1) keys
  following = drop_more keys at key l ∙ (λ j. sym is j ∷ drop (at + 1) keys)

  -- the key that is next of those that are left meets the tests, or does not
  pub one_met : (old new total : List ℕ) (p : ℕ) → new ≡ old ++ p ∷ [] → p ≡ at → meets_every tests key ≡ true → old ++ places_from at tests (drop at keys) ≡ total →
      new ++ places_from (at + 1) tests (drop (at + 1) keys) ≡ total
  one_met old new total p put e met h =
      let rest = places_from (at + 1) tests (drop (at + 1) keys) in
      ap (λ ns. ns ++ rest) (put ∙ ap (λ q. old ++ q ∷ []) e)
      ∙ append_assoc old (at ∷ []) rest
      ∙ ap (λ ns. old ++ ns) (sym (ap (places_from at tests) following ∙ first_meets tests at key (drop (at + 1) keys) met))
      ∙ h

  pub one_unmet : (old total : List ℕ) → meets_every tests key ≡ false → old ++ places_from at tests (drop at keys) ≡ total →
      old ++ places_from (at + 1) tests (drop (at + 1) keys) ≡ total
  one_unmet old total missed h = ap (λ ns. old ++ ns) (sym (ap (places_from at tests) following ∙ first_fails tests at key (drop (at + 1) keys) missed)) ∙ h

module _ (tests : List DimTest) where
  places_rise : (n high : ℕ) (keys : List Tuple) → n + length keys ≡ high → RisesFrom n high (places_from n tests keys)
  places_rise n high [] e = omega arith
  places_rise n high (key ∷ keys) e = by (meets_every tests key) refl (places_rise (n + 1) high keys (omega arith))
    where
      by : (b : Bool) → meets_every tests key ≡ b → RisesFrom (n + 1) high (places_from (n + 1) tests keys) → RisesFrom n high (places_from n tests (key ∷ keys))
      by true h rest = let here : n ≤ n = omega arith in subst (RisesFrom n high) (sym (first_meets tests n key keys h)) (here, rest)
      by false h rest = subst (RisesFrom n high) (sym (first_fails tests n key keys h)) (rise_before (places_from (n + 1) tests keys) n high rest)

  pub meeting_rise : (keys : List Tuple) → RisesFrom 0 (length keys) (places_meeting tests keys)
  meeting_rise keys = places_rise 0 (length keys) keys (omega arith)

  -- the run of the one row in which the keys stand that meet the tests
  span_numbers : (keys : List Tuple) (start end : ℕ) (run : PlaceRun) → IsSpan (meets_every tests) keys start end → run.first ≡ start → run.past ≡ end →
      numbers_of (run ∷ []) ≡ places_meeting tests keys
  span_numbers keys start end run span e f =
      append-nil (numbers_in run) ∙ (λ i. range_with_len (e i) (f i - e i)) ∙ sym (span_places tests keys start end span)

  pub span_listed : (keys : List Tuple) (start end : ℕ) (front runs : List PlaceRun) (run : PlaceRun) → IsSpan (meets_every tests) keys start end → runs ≡ front ++ run ∷ [] → front ≡ [] →
      run.first ≡ start → run.past ≡ end → numbers_of runs ≡ places_meeting tests keys
  span_listed keys start end front runs run span put none e f =
      ap numbers_of (put ∙ ap (λ (rs : List PlaceRun). rs ++ run ∷ []) none) ∙ span_numbers keys start end run span e f

  -- none, where it is empty
  pub no_numbers : (keys : List Tuple) (start end : ℕ) → IsSpan (meets_every tests) keys start end → end ≤ start → [] ≡ places_meeting tests keys
  no_numbers keys start end span l =
      let e : 0 ≡ end - start = omega arith in
      ap (range_with_len start) e ∙ sym (span_places tests keys start end span)
