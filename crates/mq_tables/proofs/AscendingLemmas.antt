-- Keys in strictly ascending order: what comes behind them, and what is found among them.
use Rattle.std.proofs.Common.{◌≡◌, ℕ, zero, suc, ◌+◌, ◌-◌, ◌<◌, ◌≤◌, List, [], ◌∷◌, ◌++◌, Bool, true, false, not, ◌&&◌, ◌||◌, length, take, get_or, Result, Ok, Err, Ordering, Less, Equal, Greater, refl, sym, ap, ◌∙◌, inl, inr, ◌⊎◌, subst, add-one, arith}
use Rattle.std.specs.Prelude.{is_ok}
use Rattle.std.specs.BTreeSet.{insert_key}
use Rattle.std.specs.Cmp.{IsTotalOrder}
use Rattle.std.specs.List.{AllByRecursion, AllWithin, filter, list_any}
use Rattle.std.specs.List.Sorted.{IsBinarySearchResult, IsSearchInRange, IsSortedBy, IsStrictlySortedBy}
use Rattle.std.specs.Ordering.{is_eq, is_gt, is_lt, match_ordering, ordering_reverse}
use Rattle.std.proofs.lemmas.Bool.{cases_lt}
use Rattle.std.proofs.lemmas.List.Sorted.{searchable_from_sorted}
use Rattle.std.proofs.lemmas.Option.{slice_get-get_or}
use Rattle.std.proofs.lemmas.Map.Keys.{Less-from_sorted, any_passes_from_place}
use Rattle.std.proofs.lemmas.Map.Views.{any-filter_same}
use Rattle.std.proofs.lemmas.List.{take_more}
use Rattle.mq_values.specs.Order.{cmp_key}
use Rattle.mq_values.specs.OrderLaws.{key_total}
use Rattle.mq_ir.specs.Keys.{Tuple, is_among, is_same}
use Rattle.mq_tables.specs.KeyOrder.{HoldsSame, Loses}
use Rattle.mq_tables.proofs.KeyLemmas.{among_inserted}
use Rattle.mq_tables.proofs.KeyOrderLemmas.{among_both}
use Rattle.mq_tables.proofs.LoseLemmas.{is_equal}

-- ---- what comes behind ascending keys
module _ {K : Type 0} {R : K → K → Ordering} (o : IsTotalOrder R) where
  all_behind : (P : K → Type 0) (ys zs : List K) → AllByRecursion P ys → AllByRecursion P zs → AllByRecursion P (ys ++ zs)
  all_behind P [] zs a b = b
  all_behind P (y ∷ ys) zs a b = (a.0, all_behind P ys zs a.1 b)

  -- the last key of those
  at_end : (P : K → Type 0) (ys : List K) (x : K) → AllByRecursion P (ys ++ x ∷ []) → P x
  at_end P [] x all = all.0
  at_end P (y ∷ ys) x all = at_end P ys x all.1

  all_front : (P : K → Type 0) (ys zs : List K) → AllByRecursion P (ys ++ zs) → AllByRecursion P ys
  all_front P [] zs all = tt
  all_front P (y ∷ ys) zs all = (all.0, all_front P ys zs all.1)

  pub front_ascends : (ys zs : List K) → IsStrictlySortedBy R (ys ++ zs) → IsStrictlySortedBy R ys
  unfolding IsStrictlySortedBy
  front_ascends [] zs s = tt
  front_ascends (y ∷ ys) zs s = (all_front (λ z. R y z ≡ Less) ys zs s.0, front_ascends ys zs s.1)

  less_than_all : (x y : K) (zs : List K) → R x y ≡ Less → AllByRecursion (λ z. R y z ≡ Less) zs → AllByRecursion (λ z. R x z ≡ Less) zs
  less_than_all x y [] h all = tt
  less_than_all x y (z ∷ zs) h all = (o.trans x y z h all.0, less_than_all x y zs h all.1)

  turned : (a b : K) (r : Ordering) → R a b ≡ r → R b a ≡ ordering_reverse r
  turned a b r h = o.antisymm b a ∙ ap ordering_reverse h

  -- a key that is greater than the greatest
  put_behind : (ys : List K) (i : ℕ) (g x : K) → IsStrictlySortedBy R ys → i + 1 ≡ length ys → get_or ys i g ≡ g → R g x ≡ Less → IsStrictlySortedBy R (ys ++ x ∷ [])
  unfolding IsStrictlySortedBy
  put_behind [] i g x s n e l = absurd (omega (arith, n))
  put_behind (y ∷ []) zero g x s n e l = ((ap (λ k. R k x) e ∙ l, tt), (tt, tt))
  put_behind (y ∷ []) (suc i) g x s n e l = absurd (omega (arith, n))
  put_behind (y ∷ z ∷ zs) zero g x s n e l = absurd (omega (arith, n))
  put_behind (y ∷ z ∷ zs) (suc i) g x s n e l =
      let first : R y g ≡ Less = sym (ap (R y) e) ∙ Less-from_sorted R (y ∷ z ∷ zs) 0 (suc i) g s (omega arith) (omega (arith, n)) in
      let rest : i + 1 ≡ length (z ∷ zs) = omega (arith, n) in
      (all_behind (λ k. R y k ≡ Less) (z ∷ zs) (x ∷ []) s.0 (o.trans y g x first l, tt), put_behind (z ∷ zs) i g x s.1 rest e l)

  -- keys of which the least is greater than the greatest
  all_put_behind : (ys zs : List K) (x : K) → IsStrictlySortedBy R (ys ++ x ∷ []) → IsStrictlySortedBy R (x ∷ zs) → IsStrictlySortedBy R (ys ++ x ∷ zs)
  unfolding IsStrictlySortedBy
  all_put_behind [] zs x s t = t
  all_put_behind (y ∷ ys) zs x s t = (
    all_behind (λ k. R y k ≡ Less) ys (x ∷ zs) (all_front (λ k. R y k ≡ Less) ys (x ∷ []) s.0) (at_end (λ k. R y k ≡ Less) ys x s.0, less_than_all y x zs (at_end (λ k. R y k ≡ Less) ys x s.0) t.0),
    all_put_behind ys zs x s.1 t,
  )

  pub behind_none : (ys : List K) (x : K) → length ys ≤ 0 → IsStrictlySortedBy R (ys ++ x ∷ [])
  unfolding IsStrictlySortedBy
  behind_none [] x n = (tt, tt)
  behind_none (y ∷ ys) x n = absurd (omega (arith, n))

  pub behind_greatest : (ys : List K) (g x : K) → 0 < length ys → g ≡ get_or ys (length ys - 1) g → R x g ≡ Greater → IsStrictlySortedBy R ys → IsStrictlySortedBy R (ys ++ x ∷ [])
  behind_greatest ys g x n e h s = put_behind ys (length ys - 1) g x s (omega (arith, n)) (sym e) (turned x g Greater h)

  pub behind_least : (ys zs : List K) (x : K) → 0 < length zs → x ≡ get_or zs 0 x → IsStrictlySortedBy R zs → IsStrictlySortedBy R (ys ++ x ∷ []) → IsStrictlySortedBy R (ys ++ zs)
  behind_least ys [] x n e t s = absurd (omega (arith, n))
  behind_least ys (z ∷ zs) x n e t s = all_put_behind ys zs z (subst (λ k. IsStrictlySortedBy R (ys ++ k ∷ [])) e s) t

  -- a key that is put into an ordered set of those before it comes to its end
  inserted_last : (ys : List K) (i : ℕ) (x : K) → IsStrictlySortedBy R ys → i < length ys → x ≡ get_or ys i x → insert_key R (take i ys) x ≡ take (suc i) ys
  unfolding IsStrictlySortedBy
  inserted_last [] i x s l e = absurd (omega arith)
  inserted_last (y ∷ ys) zero x s l e = ap (λ k. k ∷ []) e
  inserted_last (y ∷ ys) (suc i) x s l e =
      let below : R y x ≡ Less = ap (R y) e ∙ Less-from_sorted R (y ∷ ys) 0 (suc i) x s (omega arith) l in
      ap (λ r. match_ordering r (x ∷ y ∷ take i ys) (y ∷ take i ys) (y ∷ insert_key R (take i ys) x)) (turned y x Less below)
      ∙ ap (λ l. y ∷ l) (inserted_last ys i x s.1 (omega arith) e)

pub is_greater : (r : Ordering) → is_gt r ≡ true → r ≡ Greater
is_greater Less e = absurd (cc)
is_greater Equal e = absurd (cc)
is_greater Greater e = refl

-- a key that comes behind them is not among them
pub absent_behind : (keys : List Tuple) (key : Tuple) → IsStrictlySortedBy cmp_key (keys ++ key ∷ []) → is_among keys key ≡ false
unfolding IsStrictlySortedBy
absent_behind [] key s = refl
absent_behind (k ∷ keys) key s =
    ap (λ r. is_eq r || is_among keys key) (turned key_total k key Less (at_end key_total (λ x. cmp_key k x ≡ Less) keys key s.0))
    ∙ absent_behind keys key s.1

pub not_among : (keys all : List Tuple) (key : Tuple) (behind : Bool) → keys ≡ all → behind ≡ true → (behind ≡ true → IsStrictlySortedBy cmp_key (keys ++ key ∷ [])) → not behind ≡ is_among all key
not_among keys all key true e n h = sym (ap (λ l. is_among l key) (sym e) ∙ absent_behind keys key (h refl))
not_among keys all key false e n h = absurd (cc)

alone : IsStrictlySortedBy cmp_key []
unfolding IsStrictlySortedBy
alone = tt

pub none_ascend : (keys : List Tuple) → keys ≡ [] → IsStrictlySortedBy cmp_key keys
none_ascend keys e = subst (IsStrictlySortedBy cmp_key) (sym e) alone

-- ---- an ordered set of ascending keys
abbrev pub IsFront : List Tuple → ℕ → List Tuple → Type 0
IsFront keys i set = set ≡ take i keys

pub front_next : (keys set after : List Tuple) (i : ℕ) (key copy : Tuple) → IsStrictlySortedBy cmp_key keys → i < length keys → key ≡ get_or keys i key → copy ≡ key
    → after ≡ insert_key cmp_key set copy → IsFront keys i set → IsFront keys (i + 1) after
front_next keys set after i key copy s h e c a f =
    a
    ∙ ap (insert_key cmp_key set) c
    ∙ ap (λ l. insert_key cmp_key l key) f
    ∙ inserted_last key_total keys i key s h e
    ∙ ap (λ n. take n keys) (sym (add-one i))

-- ---- a key is looked for by halves
lacks_each : {K : Type 0} (x : K) (test : K → Bool) (ys : List K) → ((k : ℕ) → k < length ys → test (get_or ys k x) ≡ false) → list_any test ys ≡ false
lacks_each x test [] h = refl
lacks_each x test (y ∷ ys) h =
    let first : test y ≡ false = h 0 (omega arith) in
    let rest = lacks_each x test ys (λ k l. h (suc k) (omega arith)) in
    λ i. first i || rest i

pub found : (keys : List Tuple) (key : Tuple) → IsStrictlySortedBy cmp_key keys → (r : Result ℕ ℕ) → IsSearchInRange r (length keys) → IsBinarySearchResult (λ k. cmp_key k key) keys r
    → is_ok r ≡ is_among keys key
found keys key s (Ok at) bound h =
    sym (any_passes_from_place (is_same key) keys at (get_or keys at key) (slice_get-get_or keys at key bound) (ap is_eq (turned key_total (get_or keys at key) key Equal (h key))))
found keys key s (Err at) bound h = sym (lacks_each key (is_same key) keys other)
  where
    in_order : IsSortedBy (λ a b. is_lt (cmp_key a b)) keys
    in_order k d low l = ap is_lt (turned key_total (get_or keys k d) (get_or keys (k + 1) d) Less (Less-from_sorted cmp_key keys k (k + 1) d s (omega arith) l))

    parted : AllWithin (λ k. cmp_key k key ≡ Less) keys 0 at × AllWithin (λ k. cmp_key k key ≡ Greater) keys at (length keys)
    parted = h (searchable_from_sorted key_total (λ k. k) keys key in_order)

    other : (k : ℕ) → k < length keys → is_same key (get_or keys k key) ≡ false
    other k m = by (cases_lt k at)
      where
        by : (k < at) ⊎ (at ≤ k) → is_same key (get_or keys k key) ≡ false
        by (inl l) = ap is_eq (turned key_total (get_or keys k key) key Less (parted.0 k key (omega arith) l))
        by (inr l) = ap is_eq (turned key_total (get_or keys k key) key Greater (parted.1 k key l m))

-- ---- the keys that are not among others are kept
pub others_kept : (keys gone left : List Tuple) → left ≡ filter (λ k. not (is_among gone k)) keys → Loses keys gone left
others_kept keys gone left e q =
    ap (λ l. is_among l q) e
    ∙ any-filter_same (is_same q) (λ k. not (is_among gone k)) (not (is_among gone q)) (λ k h. ap (λ x. not (is_among gone x)) (sym (is_equal q k h))) keys
    ∙ swapped (not (is_among gone q)) (is_among keys q)
  where
    swapped : (a b : Bool) → (a && b) ≡ (b && a)
    swapped true true = refl
    swapped true false = refl
    swapped false true = refl
    swapped false false = refl

-- ---- keys are put into an ordered set
pub record Gathered (keys : List Tuple) (i : ℕ) (set : List Tuple) : Type 0 where
  pub same : HoldsSame (take i keys) set

pub gathered_next : (keys set after : List Tuple) (i : ℕ) (key copy : Tuple) → i < length keys → key ≡ get_or keys i key → copy ≡ key
    → after ≡ insert_key cmp_key set copy → Gathered keys i set → Gathered keys (i + 1) after
gathered_next keys set after i key copy h e c a g = record {
  same = λ q.
      ap (λ l. is_among l q) (a ∙ ap (insert_key cmp_key set) c)
      ∙ among_inserted q key set
      ∙ ap (λ b. is_same q key || b) (g.same q)
      ∙ sym (one_more keys i key q h e);
}
  where
    last_first : (a b : Bool) → (a || (b || false)) ≡ (b || a)
    last_first true true = refl
    last_first true false = refl
    last_first false true = refl
    last_first false false = refl

    one_more : (keys : List Tuple) (i : ℕ) (key q : Tuple) → i < length keys → key ≡ get_or keys i key → is_among (take (i + 1) keys) q ≡ (is_same q key || is_among (take i keys) q)
    one_more keys i key q h e =
        ap (λ l. is_among l q) (take_more keys i key h)
        ∙ ap (λ k. is_among (take i keys ++ k ∷ []) q) (sym e)
        ∙ among_both (take i keys) (key ∷ []) q
        ∙ last_first (is_among (take i keys) q) (is_same q key)
