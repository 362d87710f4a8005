-- The rows that go and come between two lists, step by step.
use Rattle.std.proofs.Common.{◌≡◌, ℕ, ◌+◌, ◌<◌, List, [], ◌∷◌, ◌++◌, take, drop, length, get_or, refl, sym, ap, subst, ◌∙◌, arith}
use Rattle.std.proofs.lemmas.List.{take_more, take-append-drop}
use Rattle.mq_ir.specs.Keys.{Tuple}
use Rattle.mq_delta_parts.specs.Woven.{IsChangeOf, Woven, woven_end, woven_some, woven_stay}
use Rattle.mq_kept.specs.declared.row_changes.RowChange.{RowChange}
use Rattle.mq_kept.specs.declared.row_changes.Step.{Step}
use Rattle.mq_kept.specs.declared.row_changes.Step.TheVariants as step
use Rattle.mq_kept.specs.RowChanges.{passed_by, with_step}

module _ {A : Type 0} where
  -- one item more stays, behind the others
  stay_behind : {stay some all : List A} (x : A) → Woven stay some all → Woven (stay ++ x ∷ []) some (all ++ x ∷ [])
  stay_behind x woven_end = woven_stay woven_end
  stay_behind x (woven_stay w) = woven_stay (stay_behind x w)
  stay_behind x (woven_some w) = woven_some (stay_behind x w)

  none_stay : (more : List A) → Woven [] more more
  none_stay [] = woven_end
  none_stay (x ∷ more) = woven_some (none_stay more)

  -- others come behind
  some_behind : {stay some all : List A} (more : List A) → Woven stay some all → Woven stay (some ++ more) (all ++ more)
  some_behind more woven_end = none_stay more
  some_behind more (woven_stay w) = woven_stay (some_behind more w)
  some_behind more (woven_some w) = woven_some (some_behind more w)

module _ (old new : List Tuple) where
  -- so many rows of both were passed
  abbrev pub HasChanged : ℕ → ℕ → RowChange → Type 0
  HasChanged at beside change = IsChangeOf (take at old) change.gone change.come (take beside new)

  pub nothing_changed : (change : RowChange) → change.gone ≡ [] → change.come ≡ [] → HasChanged 0 0 change
  nothing_changed change g c = record {
    stay = [];
    before = subst (λ rows. Woven [] rows []) (sym g) woven_end;
    after = subst (λ rows. Woven [] rows []) (sym c) woven_end;
  }

  -- ---- a step
  module _ (at beside : ℕ) (was is : Tuple) (within : at < length old) (room : beside < length new) (was_at : was ≡ get_or old at was)
      (is_at : is ≡ get_or new beside is) (change : RowChange) (h : HasChanged at beside change) where
    old_more : take at old ++ was ∷ [] ≡ take (at + 1) old
    old_more = sym (take_more old at was within ∙ ap (λ (r : Tuple). take at old ++ r ∷ []) (sym was_at))

    new_more : take beside new ++ is ∷ [] ≡ take (beside + 1) new
    new_more = sym (take_more new beside is room ∙ ap (λ (r : Tuple). take beside new ++ r ∷ []) (sym is_at))

    stays : was ≡ is → HasChanged (at + 1) (beside + 1) change
    stays same = record {
      stay = h.stay ++ was ∷ [];
      before = subst (Woven (h.stay ++ was ∷ []) change.gone) old_more (stay_behind was h.before);
      after =
          subst (λ (r : Tuple). Woven (h.stay ++ r ∷ []) change.come (take (beside + 1) new)) (sym same)
          (subst (Woven (h.stay ++ is ∷ []) change.come) new_more (stay_behind is h.after));
    }

    went : HasChanged (at + 1) (beside + 0) (record { gone = change.gone ++ was ∷ []; come = change.come })
    went =
        let here : beside ≡ beside + 0 = omega arith in
        record {
          stay = h.stay;
          before = subst (Woven h.stay (change.gone ++ was ∷ [])) old_more (some_behind (was ∷ []) h.before);
          after = subst (λ n. Woven h.stay change.come (take n new)) here h.after;
        }

    replaced : HasChanged (at + 1) (beside + 1) (record { gone = change.gone ++ was ∷ []; come = change.come ++ is ∷ [] })
    replaced = record {
      stay = h.stay;
      before = subst (Woven h.stay (change.gone ++ was ∷ [])) old_more (some_behind (was ∷ []) h.before);
      after = subst (Woven h.stay (change.come ++ is ∷ [])) new_more (some_behind (is ∷ []) h.after);
    }

    by_step : (s : Step) → (s ≡ step.Stays → was ≡ is) → HasChanged (at + 1) (beside + passed_by s) (with_step s was is change)
    by_step step.Stays same = stays (same refl)
    by_step step.Went same = went
    by_step step.Replaced same = replaced

    pub step_further : (s : Step) (after : RowChange) (passed : ℕ) → (s ≡ step.Stays → was ≡ is) → after ≡ with_step s was is change
        → passed ≡ passed_by s → HasChanged (at + 1) (beside + passed) after
    step_further s after passed same a p =
        subst (λ n. HasChanged (at + 1) (beside + n) after) (sym p)
        (subst (HasChanged (at + 1) (beside + passed_by s)) (sym a) (by_step s same))

  -- ---- behind the end of one list
  pub rest_further : (at beside : ℕ) (change after : RowChange) → HasChanged at beside change → after.gone ≡ change.gone ++ drop at old
      → after.come ≡ change.come ++ drop beside new → IsChangeOf old after.gone after.come new
  rest_further at beside change after h g c = record {
    stay = h.stay;
    before = subst (λ rows. Woven h.stay rows old) (sym g) (subst (Woven h.stay (change.gone ++ drop at old)) (take-append-drop at old) (some_behind (drop at old) h.before));
    after = subst (λ rows. Woven h.stay rows new) (sym c) (subst (Woven h.stay (change.come ++ drop beside new)) (take-append-drop beside new) (some_behind (drop beside new) h.after));
  }
