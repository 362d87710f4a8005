-- What a search among ascending keys finds, and what an edit at that place leaves.
use Rattle.std.proofs.Common.{◌≡◌, ℕ, zero, suc, ◌+◌, ◌<◌, ◌≤◌, List, [], ◌∷◌, Bool, true, false, ◌||◌, cond, length, get_or, ltb, Some, None, Result, Ok, Err, IfOk, IfErr, Ordering, Less, Equal, Greater, refl, sym, ap, ◌∙◌, inl, inr, ◌⊎◌, arith}
use Rattle.std.specs.BTreeMap.{is_at}
use Rattle.std.specs.BTreeSet.{insert_key}
use Rattle.std.specs.Cmp.{IsTotalOrder}
use Rattle.std.specs.List.{AllByRecursion, AllWithin, HoldsAt, insert, list_any, position, position_or_len, remove}
use Rattle.std.specs.List.Sorted.{IsBinarySearchResult, IsSearchInRange, IsSortedBy, IsStrictlySortedBy}
use Rattle.std.specs.Ordering.{is_eq, is_lt, match_ordering, ordering_reverse}
use Rattle.std.specs.Set.{remove_key}
use Rattle.std.proofs.lemmas.Bool.Decides.{Decides-ltb}
use Rattle.std.proofs.lemmas.Bool.{cases_lt}
use Rattle.std.proofs.lemmas.List.Sorted.{searchable_from_sorted}
use Rattle.std.proofs.lemmas.List.Sums.{position_or_len_is}
use Rattle.std.proofs.lemmas.Option.{slice_get-get_or}
use Rattle.std.proofs.lemmas.Map.Keys.{Less-from_sorted, any_passes_from_place}
use Rattle.mq_values.specs.Order.{cmp_key}
use Rattle.mq_values.specs.OrderLaws.{key_total}
use Rattle.mq_values.specs.OrderTells.{same_key}
use Rattle.mq_dim_index.specs.Places.{FitsAt, StandsAt, Tuple}

module _ {K : Type 0} {R : K → K → Ordering} (o : IsTotalOrder R) (x : K) where
  pub turned : (a b : K) (r : Ordering) → R a b ≡ r → R b a ≡ ordering_reverse r
  turned a b r h = o.antisymm b a ∙ ap ordering_reverse h

  -- x goes in front of the first key that is greater
  pub inserted_here : (ys : List K) (at : ℕ) → at ≤ length ys → AllWithin (λ y. R y x ≡ Less) ys 0 at → AllWithin (λ y. R y x ≡ Greater) ys at (length ys) → insert ys at x ≡ insert_key R ys x
  inserted_here [] zero l below above = refl
  inserted_here [] (suc at) l below above = absurd (omega arith)
  inserted_here (y ∷ ys) zero l below above =
      sym (ap (λ r. match_ordering r (x ∷ y ∷ ys) (y ∷ ys) (y ∷ insert_key R ys x)) (turned y x Greater (above 0 y (omega arith) (omega arith))))
  inserted_here (y ∷ ys) (suc at) l below above =
      let rest = inserted_here ys at (omega arith) (λ k d a b. below (suc k) d (omega arith) (omega arith)) (λ k d a b. above (suc k) d (omega arith) (omega arith)) in
      ap (λ l. y ∷ l) rest
      ∙ sym (ap (λ r. match_ordering r (x ∷ y ∷ ys) (y ∷ ys) (y ∷ insert_key R ys x)) (turned y x Less (below 0 y (omega arith) (omega arith))))

  -- a key before the one that is x comes before x
  before_found : (ys : List K) (k at : ℕ) → IsStrictlySortedBy R ys → k < at → at < length ys → HoldsAt (λ y. R y x ≡ Equal) ys at → R x (get_or ys k x) ≡ Greater
  before_found ys k at s l b h =
      sym (o.congr (get_or ys at x) x (get_or ys k x) (h x)) ∙ turned (get_or ys k x) (get_or ys at x) Less (Less-from_sorted R ys k at x s l b)

  pub removed_here : (ys : List K) (at : ℕ) → IsStrictlySortedBy R ys → at < length ys → HoldsAt (λ y. R y x ≡ Equal) ys at → remove ys at ≡ remove_key (is_at (R x)) ys
  unfolding IsStrictlySortedBy
  removed_here [] at s l h = absurd (omega arith)
  removed_here (y ∷ ys) zero s l h = sym (ap (λ r. cond (is_eq r) ys (y ∷ remove_key (is_at (R x)) ys)) (turned y x Equal (h x)))
  removed_here (y ∷ ys) (suc at) s l h =
      ap (λ l. y ∷ l) (removed_here ys at s.1 (omega arith) h)
      ∙ sym (ap (λ r. cond (is_eq r) ys (y ∷ remove_key (is_at (R x)) ys)) (before_found (y ∷ ys) 0 (suc at) s (omega arith) l h))

  pub kept_here : (ys : List K) (at : ℕ) → IsStrictlySortedBy R ys → at < length ys → HoldsAt (λ y. R y x ≡ Equal) ys at → insert_key R ys x ≡ ys
  unfolding IsStrictlySortedBy
  kept_here [] at s l h = absurd (omega arith)
  kept_here (y ∷ ys) zero s l h = ap (λ r. match_ordering r (x ∷ y ∷ ys) (y ∷ ys) (y ∷ insert_key R ys x)) (turned y x Equal (h x))
  kept_here (y ∷ ys) (suc at) s l h =
      ap (λ r. match_ordering r (x ∷ y ∷ ys) (y ∷ ys) (y ∷ insert_key R ys x)) (before_found (y ∷ ys) 0 (suc at) s (omega arith) l h)
      ∙ ap (λ l. y ∷ l) (kept_here ys at s.1 (omega arith) h)

  -- the place of x
  pub found_here : (ys : List K) (at : ℕ) → IsStrictlySortedBy R ys → at < length ys → HoldsAt (λ y. R y x ≡ Equal) ys at → position (is_at (R x)) ys ≡ Some at
  found_here ys at s l h = (λ i. cond (ltb (first i) (length ys)) (Some (first i)) None) ∙ ap (λ b. cond b (Some at) None) ((Decides-ltb at (length ys)).1 l)
    where
      first : position_or_len (is_at (R x)) ys ≡ at
      first =
          position_or_len_is (is_at (R x)) ys at x (omega arith)
          (λ k b. ap is_eq (before_found ys k at s b l h))
          (λ b. ap is_eq (turned (get_or ys at x) x Equal (h x)))

  -- x is at none of the places
  pub at_no_place : (ys : List K) (at : ℕ) → AllWithin (λ y. R y x ≡ Less) ys 0 at → AllWithin (λ y. R y x ≡ Greater) ys at (length ys) → (k : ℕ) → k < length ys → is_at (R x) (get_or ys k x) ≡ false
  at_no_place ys at below above k m = by (cases_lt k at)
    where
      by : (k < at) ⊎ (at ≤ k) → is_at (R x) (get_or ys k x) ≡ false
      by (inl l) = ap is_eq (turned (get_or ys k x) x Less (below k x (omega arith) l))
      by (inr l) = ap is_eq (turned (get_or ys k x) x Greater (above k x l m))

  -- none of the keys is x
  found_nowhere : (ys : List K) → ((k : ℕ) → k < length ys → is_at (R x) (get_or ys k x) ≡ false) → position (is_at (R x)) ys ≡ None
  found_nowhere ys other = (λ i. cond (ltb (first i) (length ys)) (Some (first i)) None) ∙ ap (λ b. cond b (Some (length ys)) None) (not_below (ltb (length ys) (length ys)) refl)
    where
      first : position_or_len (is_at (R x)) ys ≡ length ys
      first = position_or_len_is (is_at (R x)) ys (length ys) x (omega arith) other (λ m. absurd (omega arith))

      not_below : (b : Bool) → ltb (length ys) (length ys) ≡ b → b ≡ false
      not_below true e = let m : length ys < length ys = (Decides-ltb (length ys) (length ys)).0 e in absurd (omega arith)
      not_below false e = refl

  -- what has no key at any place has none
  pub lacks_each : (test : K → Bool) (ys : List K) → ((k : ℕ) → k < length ys → test (get_or ys k x) ≡ false) → list_any test ys ≡ false
  lacks_each test [] h = refl
  lacks_each test (y ∷ ys) h =
      let first : test y ≡ false = h 0 (omega arith) in
      let rest = lacks_each test ys (λ k l. h (suc k) (omega arith)) in
      λ i. first i || rest i

  all_inserted : (P : K → Type 0) (ys : List K) → P x → AllByRecursion P ys → AllByRecursion P (insert_key R ys x)
  all_inserted P [] p all = (p, tt)
  all_inserted P (y ∷ ys) p all = by (R x y) (all_inserted P ys p all.1)
    where
      by : (r : Ordering) → AllByRecursion P (insert_key R ys x) → AllByRecursion P (match_ordering r (x ∷ y ∷ ys) (y ∷ ys) (y ∷ insert_key R ys x))
      by Less rest = (p, all)
      by Equal rest = all
      by Greater rest = (all.0, rest)

  less_than_all : (y : K) (zs : List K) → R x y ≡ Less → AllByRecursion (λ z. R y z ≡ Less) zs → AllByRecursion (λ z. R x z ≡ Less) zs
  less_than_all y [] h all = tt
  less_than_all y (z ∷ zs) h all = (o.trans x y z h all.0, less_than_all y zs h all.1)

  pub sorted_inserted : (ys : List K) → IsStrictlySortedBy R ys → IsStrictlySortedBy R (insert_key R ys x)
  unfolding IsStrictlySortedBy
  sorted_inserted [] s = (tt, tt)
  sorted_inserted (y ∷ ys) s = by (R x y) refl (sorted_inserted ys s.1)
    where
      by : (r : Ordering) → R x y ≡ r → IsStrictlySortedBy R (insert_key R ys x) → IsStrictlySortedBy R (match_ordering r (x ∷ y ∷ ys) (y ∷ ys) (y ∷ insert_key R ys x))
      by Less e rest = ((e, less_than_all y ys e s.0), s)
      by Equal e rest = s
      by Greater e rest = (all_inserted (λ z. R y z ≡ Less) ys (turned x y Greater e) s.0, rest)

module _ {K : Type 0} (test : K → Bool) where
  all_removed : (P : K → Type 0) (ys : List K) → AllByRecursion P ys → AllByRecursion P (remove_key test ys)
  all_removed P [] all = tt
  all_removed P (y ∷ ys) all = by (test y) (all_removed P ys all.1)
    where
      by : (b : Bool) → AllByRecursion P (remove_key test ys) → AllByRecursion P (cond b ys (y ∷ remove_key test ys))
      by true rest = all.1
      by false rest = (all.0, rest)

  pub nothing_removed : (ys : List K) → list_any test ys ≡ false → remove_key test ys ≡ ys
  nothing_removed [] h = refl
  nothing_removed (y ∷ ys) h = by (test y) refl (nothing_removed ys)
    where
      by : (b : Bool) → test y ≡ b → (list_any test ys ≡ false → remove_key test ys ≡ ys) → cond b ys (y ∷ remove_key test ys) ≡ y ∷ ys
      by true e rest = let g : true ≡ false = sym (ap (λ b. b || list_any test ys) e) ∙ h in cc
      by false e rest = ap (λ l. y ∷ l) (rest (sym (ap (λ b. b || list_any test ys) e) ∙ h))

  pub sorted_removed : (R : K → K → Ordering) (ys : List K) → IsStrictlySortedBy R ys → IsStrictlySortedBy R (remove_key test ys)
  unfolding IsStrictlySortedBy
  sorted_removed R [] s = tt
  sorted_removed R (y ∷ ys) s = by (test y) (sorted_removed R ys s.1)
    where
      by : (b : Bool) → IsStrictlySortedBy R (remove_key test ys) → IsStrictlySortedBy R (cond b ys (y ∷ remove_key test ys))
      by true rest = s.1
      by false rest = (all_removed (λ z. R y z ≡ Less) ys s.0, rest)

-- what the search of std says
pub searched : (keys : List Tuple) (key : Tuple) → IsStrictlySortedBy cmp_key keys → (r : Result ℕ ℕ) → IsSearchInRange r (length keys) → IsBinarySearchResult (λ k. cmp_key k key) keys r →
    IfOk r (StandsAt keys key) × IfErr r (FitsAt keys key)
searched keys key s (Ok at) bound h = (
  record {
    below = bound;
    there = any_passes_from_place (is_at (cmp_key key)) keys at (get_or keys at key) (slice_get-get_or keys at key bound) (ap is_eq (turned key_total key (get_or keys at key) key Equal (h key)));
    found = found_here key_total key keys at s bound h;
    itself = λ other. same_key (get_or keys at other) key (h other);
    removed = removed_here key_total key keys at s bound h;
    kept = kept_here key_total key keys at s bound h;
  },
  tt,
)
searched keys key s (Err at) bound h = (
  tt,
  record {
    within = bound;
    lacking = lacks_each key_total key (is_at (cmp_key key)) keys other;
    unchanged = nothing_removed (is_at (cmp_key key)) keys (lacks_each key_total key (is_at (cmp_key key)) keys other);
    absent = found_nowhere key_total key keys other;
    inserted = inserted_here key_total key keys at bound parted.0 parted.1;
  },
)
  where
    in_order : IsSortedBy (λ a b. is_lt (cmp_key a b)) keys
    in_order k d low l = ap is_lt (turned key_total key (get_or keys k d) (get_or keys (k + 1) d) Less (Less-from_sorted cmp_key keys k (k + 1) d s (omega arith) l))

    parted : AllWithin (λ k. cmp_key k key ≡ Less) keys 0 at × AllWithin (λ k. cmp_key k key ≡ Greater) keys at (length keys)
    parted = h (searchable_from_sorted key_total (λ k. k) keys key in_order)

    other : (k : ℕ) → k < length keys → is_at (cmp_key key) (get_or keys k key) ≡ false
    other = at_no_place key_total key keys at parted.0 parted.1
