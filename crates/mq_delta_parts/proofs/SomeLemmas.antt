-- Edits leave cells where no tuple would stand twice.
use Rattle.std.proofs.Common.{◌≡◌, ◌≤◌, ◌+◌, Bool, true, false, ◌||◌, cond, List, [], ◌∷◌, ◌++◌, length, length-append, map, is_some, Option, Some, None, Ordering, Less, Equal, Greater, refl, sym, ap, subst, ◌∙◌, arith}
use Rattle.std.specs.Prelude.{if◌then◌else◌}
use Rattle.std.specs.List.{filter, list_any}
use Rattle.std.specs.Ordering.{is_eq, is_gt}
use Rattle.std.proofs.lemmas.Bool.{or_from}
use Rattle.mq_values.specs.Order.{cmp_key}
use Rattle.mq_ir.specs.Keys.{Tuple, is_same}
use Rattle.mq_ir.specs.Partitions.{Cells, cells_of, repeated}
use Rattle.mq_ir.specs.Rising.{Low, Rising}
use Rattle.mq_change_laws.specs.KeyLaws.{same_itself}
use Rattle.mq_change_laws.specs.SoundLaws.{same_is}
use Rattle.mq_delta_parts.specs.ChangeLaws.{woven_kept}
use Rattle.mq_delta_parts.specs.Edits.{Edit, above, amended, begins_with, below, by_tuple, coming, edits_of, going, has_cell, joined}
use Rattle.mq_delta_parts.specs.Woven.{IsChangeOf}
use Rattle.mq_delta_parts.proofs.ChangeLemmas.{edits_at, edits_rise, goes_kept, goes_of, leaves}
use Rattle.mq_delta_parts.proofs.EditLemmas.{at, at_above, comes, goes, no_comes, no_goes, none_above}
use Rattle.mq_delta_parts.proofs.ListLemmas.{kept_all}
use Rattle.mq_delta_parts.proofs.RepeatLemmas.{as_many, each_once}
use Rattle.mq_delta_parts.proofs.WovenLemmas.{few_left, left, left_none}

-- ---- of each tuple the rows that went stand before those that came
abbrev GoneFirst : List Edit → Type 0
GoneFirst [] = Unit {0}
GoneFirst ((tuple, None) ∷ edits) = GoneFirst edits
GoneFirst ((tuple, Some measures) ∷ edits) = (filter (is_same tuple) (goes edits) ≡ []) × GoneFirst edits

first_made : (gone come : List (Tuple × Tuple)) → GoneFirst (map going gone ++ map coming come)
first_made [] [] = tt
first_made [] (row ∷ come) = (ap (filter (is_same row.0)) (goes_of [] come), first_made [] come)
first_made (row ∷ gone) come = first_made gone come

first_at : (q : Tuple) (edits : List Edit) → GoneFirst edits → GoneFirst (at q edits)
first_at q [] f = tt
first_at q ((t, None) ∷ edits) f = by (is_same q t) (first_at q edits f)
  where
    by : (b : Bool) → GoneFirst (at q edits) → GoneFirst (cond b ((t, None) ∷ at q edits) (at q edits))
    by true h = h
    by false h = h
first_at q ((t, Some m) ∷ edits) f = by (is_same q t) refl (first_at q edits f.1)
  where
    by : (b : Bool) → is_same q t ≡ b → GoneFirst (at q edits) → GoneFirst (cond b ((t, Some m) ∷ at q edits) (at q edits))
    by true e h =
        let none : goes (at q edits) ≡ [] = sym (goes_kept q edits) ∙ ap (λ u. filter (is_same u) (goes edits)) (same_is q t e) ∙ f.0 in
        (ap (filter (is_same t)) none, h)
    by false e h = h

first_all : (edits : List Edit) → ((q : Tuple) → GoneFirst (at q edits)) → GoneFirst edits
first_all [] h = tt
first_all ((t, None) ∷ edits) h = first_all edits (λ q. by q (is_same q t) (h q))
  where
    by : (q : Tuple) (b : Bool) → GoneFirst (cond b ((t, None) ∷ at q edits) (at q edits)) → GoneFirst (at q edits)
    by q true f = f
    by q false f = f
first_all ((t, Some m) ∷ edits) h = (none, first_all edits (λ q. by q (is_same q t) (h q)))
  where
    by : (q : Tuple) (b : Bool) → GoneFirst (cond b ((t, Some m) ∷ at q edits) (at q edits)) → GoneFirst (at q edits)
    by q true f = f.1
    by q false f = f

    own : GoneFirst ((t, Some m) ∷ at t edits)
    own = subst (λ b. GoneFirst (cond b ((t, Some m) ∷ at t edits) (at t edits))) (same_itself t) (h t)

    none : filter (is_same t) (goes edits) ≡ []
    none = sym (kept_all (is_same t) (is_same t) (λ z e. e) (goes edits)) ∙ ap (filter (is_same t)) (goes_kept t edits) ∙ own.0

first_sorted : (gone come : List (Tuple × Tuple)) → GoneFirst (edits_of gone come)
first_sorted gone come =
    first_all (edits_of gone come)
    (λ q. subst GoneFirst (sym (edits_at gone come q)) (first_at q (map going gone ++ map coming come) (first_made gone come)))

-- ---- tuples of which one row at most is left or comes
abbrev FewAt : List Edit → Cells → Tuple → Type 0
FewAt edits cells q = length (left (filter (is_same q) (goes edits)) (at q cells) ++ at q (comes edits)) ≤ 1

module _ (q t : Tuple) (edits : List Edit) (cells : Cells) where
  abbrev gone : List Tuple
  gone = filter (is_same q) (goes edits)

  abbrev came : Cells
  came = at q (comes edits)

  -- nothing of a lesser tuple is behind an edit, and no cell of its own
  lesser : (m : Option Tuple) → Low by_tuple (t, m) edits → cmp_key q t ≡ Less → FewAt edits (above t cells) q
  lesser m l e =
      let n : length (left gone (at q (above t cells)) ++ came) ≡ 0 =
      (λ i. length (left (no_goes q t m e edits l i) (none_above q t cells (ap is_gt e) i) ++ no_comes q t m e edits l i)) in
      omega (arith, n)

  own : cmp_key q t ≡ Equal → length came ≤ 1 → FewAt edits (above t cells) q
  own e f =
      let n : length (left gone (at q (above t cells)) ++ came) ≡ length came =
      ap (λ (l : Cells). length (l ++ came)) (ap (left gone) (none_above q t cells (ap is_gt e)) ∙ left_none gone) in
      omega (arith, n, f)

  greater : cmp_key q t ≡ Greater → length (left gone (at q cells) ++ came) ≤ 1 → FewAt edits (above t cells) q
  greater e f = subst (λ (l : Cells). length (left gone l ++ came) ≤ 1) (sym (at_above q t cells (ap is_gt e))) f

  -- behind an edit there are no more
  few_gone : Low by_tuple (t, None) edits → FewAt ((t, None) ∷ edits) cells q → FewAt edits (above t cells) q
  few_gone l f = by (cmp_key q t) refl f
    where
      by : (r : Ordering) → cmp_key q t ≡ r → length (left (cond (is_eq r) (t ∷ gone) gone) (at q cells) ++ came) ≤ 1 → FewAt edits (above t cells) q
      by Less e f = lesser None l e
      by Equal e f = own e f
      by Greater e f = greater e f

  few_came : (m : Tuple) → Low by_tuple (t, Some m) edits → FewAt ((t, Some m) ∷ edits) cells q → FewAt edits (above t cells) q
  few_came m l f = by (cmp_key q t) refl f
    where
      by : (r : Ordering) → cmp_key q t ≡ r → length (left gone (at q cells) ++ cond (is_eq r) ((t, m) ∷ came) came) ≤ 1 → FewAt edits (above t cells) q
      by Less e f = lesser (Some m) l e
      by Equal e f = own e (omega (arith, f, length-append (left gone (at q cells)) ((t, m) ∷ came)))
      by Greater e f = greater e f

-- ---- a row that comes has room
none_any : {A : Type 0} (p : A → Bool) (xs : List A) → length (filter p xs) ≤ 0 → list_any p xs ≡ false
none_any p [] h = refl
none_any p (x ∷ xs) h = by (p x) h (none_any p xs)
  where
    by : (b : Bool) → length (cond b (x ∷ filter p xs) (filter p xs)) ≤ 0 → (length (filter p xs) ≤ 0 → list_any p xs ≡ false) → (b || list_any p xs) ≡ false
    by true h f = absurd (omega (arith, h))
    by false h f = f h

other_first : (t : Tuple) (edits : List Edit) → filter (is_same t) (goes edits) ≡ [] → length (at t (comes edits)) ≤ 0 → begins_with edits t ≡ false
other_first t [] g c = refl
other_first t ((u, None) ∷ edits) g c = by (is_same t u) g
  where
    by : (b : Bool) → cond b (u ∷ filter (is_same t) (goes edits)) (filter (is_same t) (goes edits)) ≡ [] → b ≡ false
    by true h = absurd (cc)
    by false h = refl
other_first t ((u, Some n) ∷ edits) g c = by (is_same t u) c
  where
    by : (b : Bool) → length (cond b ((u, n) ∷ at t (comes edits)) (at t (comes edits))) ≤ 0 → b ≡ false
    by true h = absurd (omega (arith, h))
    by false h = refl

has_room : (t m : Tuple) (edits : List Edit) (cells : Cells) → filter (is_same t) (goes edits) ≡ [] → FewAt ((t, Some m) ∷ edits) cells t
    → (has_cell cells t || begins_with edits t) ≡ false
has_room t m edits cells g f =
    or_from (has_cell cells t) (begins_with edits t)
    (none_any (λ cell. is_same t cell.0) cells (omega (arith, few)))
    (other_first t edits g (omega (arith, few)))
  where
    plain : length (at t cells ++ (t, m) ∷ at t (comes edits)) ≤ 1
    plain =
        subst (λ b. length (at t cells ++ cond b ((t, m) ∷ at t (comes edits)) (at t (comes edits))) ≤ 1) (same_itself t)
        (subst (λ (gone : List Tuple). length (left gone (at t cells) ++ at t (comes ((t, Some m) ∷ edits))) ≤ 1) g f)

    few : length (at t cells) + length (at t (comes edits)) ≤ 0
    few = omega (arith, plain, length-append (at t cells) ((t, m) ∷ at t (comes edits)))

-- ---- the edits leave cells
joined_some : (front : Cells) (o : Option Cells) → is_some o ≡ true → is_some (joined (Some front) o) ≡ true
joined_some front None h = h
joined_some front (Some rest) h = refl

amended_some : (edits : List Edit) (cells : Cells) → Rising by_tuple edits → GoneFirst edits → ((q : Tuple) → FewAt edits cells q)
    → is_some (amended cells edits) ≡ true
amended_some [] cells r g few = refl
amended_some ((t, None) ∷ edits) cells r g few =
    joined_some (below t cells) (amended (above t cells) edits)
    (amended_some edits (above t cells) r.1 g (λ q. few_gone q t edits cells r.0 (few q)))
amended_some ((t, Some m) ∷ edits) cells r g few =
    ap (λ b. is_some (joined (if b then None else Some (below t cells ++ (t, m) ∷ [])) (amended (above t cells) edits)))
    (has_room t m edits cells g.0 (few t))
    ∙ joined_some (below t cells ++ (t, m) ∷ []) (amended (above t cells) edits)
    (amended_some edits (above t cells) r.1 g.1 (λ q. few_came q t edits cells m r.0 (few q)))

-- the cells of rows after a change, where no tuple stands twice then
pub change_amends : (old gone come new : List (Tuple × Tuple)) → IsChangeOf old gone come new → repeated (map (λ row. row.0) new) ≡ None
    → is_some (amended (cells_of old) (edits_of gone come)) ≡ true
change_amends old gone come new change none =
    amended_some (edits_of gone come) (cells_of old) (edits_rise gone come) (first_sorted gone come)
    (λ q. subst (λ (l : Cells). length l ≤ 1) (sym (leaves old gone come q)) (few q))
  where
    few : (q : Tuple) → length (left (at q gone) (at q old) ++ at q come) ≤ 1
    few q =
        few_left (at q gone) (at q come) (at q old)
        (woven_kept (λ row. is_same q row.0) change.before) (woven_kept (λ row. is_same q row.0) change.after)
        (subst (λ n. n ≤ 1) (as_many q new) (each_once (map (λ row. row.0) new) none q))
