-- One more key among those that ascend.
use Rattle.std.proofs.Common.{◌≡◌, ℕ, suc, ◌+◌, ◌<◌, ◌≤◌, ◌⊎◌, inl, inr, arith, List, [], ◌∷◌, Bool, true, false, not, ◌||◌, cond, get_or, length, Option, Some, None, Ordering, Less, Equal, Greater, refl, sym, ap, ◌∙◌}
use Rattle.std.specs.Prelude.{is_some, nat_lt}
use Rattle.std.specs.BTreeMap.{is_at}
use Rattle.std.specs.List.{AllByRecursion, insert, position_or_len}
use Rattle.std.specs.List.Sorted.{IsStrictlySortedBy}
use Rattle.std.specs.Map.{keys_of}
use Rattle.std.specs.Ordering.{is_eq, match_ordering}
use Rattle.std.proofs.lemmas.Bool.Decides.{Decides-ltb}
use Rattle.std.proofs.lemmas.Bool.{cases_lt}
use Rattle.std.proofs.lemmas.List.{get_or_default}
use Rattle.std.proofs.lemmas.List.Quantifiers.{position-Some}
use Rattle.std.proofs.lemmas.Map.Keys.{any_passes_from_place, sorted_head, sorted_tail}
use Rattle.std.proofs.lemmas.Option.{slice_get-get_or}
use Rattle.mq_values.specs.KeySetLaws.{among_with}
use Rattle.mq_values.specs.Order.{cmp_key}
use Rattle.mq_values.specs.OrderLaws.{key_total}
use Rattle.mq_values.specs.OrderTells.{key_itself}
use Rattle.mq_ir.specs.Keys.{Tuple}
use Rattle.mq_ir.specs.Partitions.{Cells, with_cell}
use Rattle.mq_dim_index.specs.Places.{is_there, place_of, with_key}
use Rattle.mq_seq.proofs.NoteLemmas.{is_equal}

-- the keys of the cells with one more
pub keys_with : (cells : Cells) (key measures : Tuple) → keys_of (with_cell cells key measures) ≡ with_key (keys_of cells) key
keys_with [] key measures = refl
keys_with (e ∷ es) key measures = by (cmp_key key e.0) (keys_with es key measures)
  where
    by : (r : Ordering) → keys_of (with_cell es key measures) ≡ with_key (keys_of es) key
        → keys_of (match_ordering r ((key, measures) ∷ e ∷ es) ((e.0, measures) ∷ es) (e ∷ with_cell es key measures)) ≡ match_ordering r (key ∷ e.0 ∷ keys_of es) (e.0 ∷ keys_of es) (e.0 ∷ with_key (keys_of es) key)
    by Less h = refl
    by Equal h = refl
    by Greater h = ap (λ l. e.0 ∷ l) h

-- the place at which a key stands, where it does
abbrev pub place_in : List Tuple → Tuple → ℕ
place_in keys key = position_or_len (is_at (cmp_key key)) keys

pub first_place : (keys : List Tuple) (key : Tuple) → place_in (key ∷ keys) key ≡ 0
first_place keys key = ap (λ r. cond (not (is_eq r)) (1 + place_in keys key) 0) (key_itself key)

at_front : (keys rest : List Tuple) (key : Tuple) → insert rest (place_in (key ∷ keys) key) key ≡ key ∷ rest
at_front keys rest key = ap (λ n. insert rest n key) (first_place keys key)

put_at : (keys : List Tuple) (key : Tuple) → is_there keys key ≡ false → insert keys (place_in (with_key keys key) key) key ≡ with_key keys key
put_at [] key h = at_front [] [] key
put_at (x ∷ xs) key h = by (cmp_key key x) refl h (put_at xs key)
  where
    by : (r : Ordering) → cmp_key key x ≡ r → (is_eq r || is_there xs key) ≡ false → (is_there xs key ≡ false → insert xs (place_in (with_key xs key) key) key ≡ with_key xs key)
        → insert (x ∷ xs) (place_in (match_ordering r (key ∷ x ∷ xs) (x ∷ xs) (x ∷ with_key xs key)) key) key ≡ match_ordering r (key ∷ x ∷ xs) (x ∷ xs) (x ∷ with_key xs key)
    by Less e g rest = at_front (x ∷ xs) (x ∷ xs) key
    by Equal e g rest = absurd (cc)
    by Greater e g rest =
        let n = place_in (with_key xs key) key in
        let one : 1 + n ≡ suc n = omega arith in
        ap (λ r. insert (x ∷ xs) (cond (not (is_eq r)) (1 + n) 0) key) e ∙ ap (λ k. insert (x ∷ xs) k key) one ∙ ap (λ l. x ∷ l) (rest g)

pub the_place : (n m at : ℕ) → cond (nat_lt n m) (Some n) None ≡ Some at → n ≡ at
the_place n m at h = by (nat_lt n m) h
  where
    by : (b : Bool) → cond b (Some n) None ≡ Some at → n ≡ at
    by true g = cc
    by false g = absurd (cc)

-- a key is put at the place at which it is then found
pub put_where_found : (keys : List Tuple) (key : Tuple) (at : ℕ) → is_there keys key ≡ false → place_of (with_key keys key) key ≡ Some at → insert keys at key ≡ with_key keys key
put_where_found keys key at h e =
    ap (λ n. insert keys n key) (sym (the_place (place_in (with_key keys key) key) (length (with_key keys key)) at e)) ∙ put_at keys key h

no_place : (n m : ℕ) → cond (nat_lt n m) (Some n) None ≡ None → m ≤ n
no_place n m h = by (cases_lt n m)
  where
    by : (n < m) ⊎ (m ≤ n) → m ≤ n
    by (inl l) =
        let e : Some n ≡ None = sym (ap (λ b. cond b (Some n) None) ((Decides-ltb n m).1 l)) ∙ h in
        absurd (cc)
    by (inr l) = l

module _ (key : Tuple) where
  -- a key that comes before the first of those that ascend is none of them
  pub none_after : (k : Tuple) (ks : List Tuple) → cmp_key key k ≡ Less → AllByRecursion (λ y. cmp_key k y ≡ Less) ks → is_there ks key ≡ false
  none_after k [] e all = refl
  none_after k (y ∷ ys) e all =
      let first : is_at (cmp_key key) y ≡ false = ap is_eq (key_total.trans key k y e all.0) in
      let rest = none_after k ys e all.1 in
      λ i. first i || rest i

  pub stands : (ks : List Tuple) (at : ℕ) → place_of ks key ≡ Some at → is_there ks key ≡ true
  stands ks at e =
      let found = position-Some (is_at (cmp_key key)) ks at key e in
      any_passes_from_place (is_at (cmp_key key)) ks at (get_or ks at key) (slice_get-get_or ks at key found.0) found.1

  lacks : (ks : List Tuple) → length ks ≤ place_in ks key → is_there ks key ≡ false
  lacks [] h = refl
  lacks (k ∷ ks) h = by (is_at (cmp_key key) k) h (lacks ks)
    where
      by : (b : Bool) → length (k ∷ ks) ≤ cond (not b) (1 + place_in ks key) 0 → (length ks ≤ place_in ks key → is_there ks key ≡ false) → (b || is_there ks key) ≡ false
      by true g rest = absurd (omega arith)
      by false g rest = rest (omega arith)

  -- a key without a place is not there
  pub nowhere : (ks : List Tuple) → place_of ks key ≡ None → is_there ks key ≡ false
  nowhere ks e = lacks ks (no_place (place_in ks key) (length ks) e)

  pub length_with : (ks : List Tuple) → is_there ks key ≡ false → length (with_key ks key) ≡ length ks + 1
  length_with [] t = refl
  length_with (k ∷ ks) t = by (cmp_key key k) t (length_with ks)
    where
      by : (r : Ordering) → (is_eq r || is_there ks key) ≡ false → (is_there ks key ≡ false → length (with_key ks key) ≡ length ks + 1)
          → length (match_ordering r (key ∷ k ∷ ks) (k ∷ ks) (k ∷ with_key ks key)) ≡ length (k ∷ ks) + 1
      by Less g rest = omega arith
      by Equal g rest = absurd (cc)
      by Greater g rest = let h = rest g in omega (arith, h)

  -- a key that is put goes between the others or behind them
  pub place_within : (ks : List Tuple) (at : ℕ) → is_there ks key ≡ false → place_of (with_key ks key) key ≡ Some at → at ≤ length ks
  place_within ks at t e =
      let found = position-Some (is_at (cmp_key key)) (with_key ks key) at key e in
      let below = found.0 in
      let more = length_with ks t in
      omega (arith, below, more)

  -- a key has a place exactly where it is there
  pub placed_there : (ks : List Tuple) → is_some (place_of ks key) ≡ is_there ks key
  placed_there ks = by (place_of ks key) refl
    where
      by : (found : Option ℕ) → place_of ks key ≡ found → is_some found ≡ is_there ks key
      by (Some at) e = sym (stands ks at e)
      by None e = sym (nowhere ks e)

  -- a key that is there is not put once more
  pub with_there : (ks : List Tuple) → IsStrictlySortedBy cmp_key ks → is_there ks key ≡ true → with_key ks key ≡ ks
  with_there [] s t = absurd (cc)
  with_there (k ∷ ks) s t = by (cmp_key key k) refl t (with_there ks (sorted_tail cmp_key k ks s))
    where
      by : (r : Ordering) → cmp_key key k ≡ r → (is_eq r || is_there ks key) ≡ true → (is_there ks key ≡ true → with_key ks key ≡ ks)
          → match_ordering r (key ∷ k ∷ ks) (k ∷ ks) (k ∷ with_key ks key) ≡ k ∷ ks
      by Less e g rest =
          let none = none_after k ks e (sorted_head cmp_key k ks s) in
          absurd (cc)
      by Equal e g rest = refl
      by Greater e g rest = ap (λ l. k ∷ l) (rest g)

  -- the key at its place
  pub key_placed : (ks : List Tuple) (at : ℕ) (other : Tuple) → place_of ks key ≡ Some at → get_or ks at other ≡ key
  key_placed ks at other e =
      let found = position-Some (is_at (cmp_key key)) ks at key e in
      get_or_default ks at other key found.0 ∙ sym (is_equal key (get_or ks at key) found.1)

  pub place_below : (ks : List Tuple) (at : ℕ) → place_of ks key ≡ Some at → at < length ks
  place_below ks at e = (position-Some (is_at (cmp_key key)) ks at key e).0

  -- a key that is put is there, and one more at most
  pub there_with : (ks : List Tuple) → is_there (with_key ks key) key ≡ true
  there_with ks = among_with key key ks ∙ ap (λ r. is_eq r || is_there ks key) (key_itself key)

  pub with_longer : (ks : List Tuple) → length (with_key ks key) ≤ length ks + 1
  with_longer [] = omega arith
  with_longer (k ∷ ks) = by (cmp_key key k) (with_longer ks)
    where
      by : (r : Ordering) → length (with_key ks key) ≤ length ks + 1 → length (match_ordering r (key ∷ k ∷ ks) (k ∷ ks) (k ∷ with_key ks key)) ≤ length (k ∷ ks) + 1
      by Less h = omega arith
      by Equal h = omega arith
      by Greater h = omega (arith, h)
