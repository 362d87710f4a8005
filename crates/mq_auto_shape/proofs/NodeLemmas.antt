-- Assigned measures in their order: one that is put at its place, and one that is searched.
use Rattle.std.proofs.Common.{◌≡◌, ℕ, zero, suc, ◌+◌, ◌-◌, ◌<◌, ◌≤◌, ◌&&◌, ◌||◌, Bool, true, false, cond, List, [], ◌∷◌, ◌++◌, drop, length, get_or, map, reverse, Some, Result, Ok, Err, if◌then◌else◌, Ordering, Less, Equal, Greater, refl, sym, ap, subst, ◌∙◌, inl, inr, ◌⊎◌, arith}
use Rattle.std.specs.Cmp.{IsTotalOrder, eq_by_cmp_equiv, nat_cmp_total, on_total, then_total, unsigned_tied}
use Rattle.std.specs.List.{All, AllByRecursion, AllWithin, find, insert, list_any}
use Rattle.std.specs.List.Sorted.{IsBinarySearchResult, IsSearchInRange, IsSortedBy, IsStrictlySortedBy}
use Rattle.std.proofs.lemmas.Bool.{cases_lt}
use Rattle.std.proofs.lemmas.List.{append_assoc, reverse-append}
use Rattle.std.proofs.lemmas.List.Elements.{All-from_recursion}
use Rattle.std.proofs.lemmas.List.Sorted.{searchable_from_sorted}
use Rattle.std.proofs.lemmas.Option.{slice_get-get_or}
use Rattle.std.proofs.lemmas.Map.Keys.{Less-from_sorted, any_passes_from_place}
use Rattle.std.specs.Ordering.{is_eq, is_gt, is_lt, nat_cmp, ordering_reverse, ordering_then}
use Rattle.mq_values.specs.Order.{cmp_key}
use Rattle.mq_values.specs.OrderLaws.{key_total}
use Rattle.mq_ir.specs.Keys.{Tuple, is_same}
use Rattle.mq_auto_shape.proofs.FreshLemmas.{node_lacking}
use Rattle.mq_ir.specs.Partitions.{placed}
use Rattle.mq_ir.specs.Shape.{Assignment, assigns, cmp_assignment}
use Rattle.mq_auto_shape.specs.Walk.{AreBefore, AreUnassigned, Fresh, IsNotBefore, Searched, assigned_by, cmp_measure, placed_all}

tied : (r s : Ordering) → is_eq (ordering_then r s) ≡ (is_eq r && is_eq s)
tied Less s = refl
tied Equal s = refl
tied Greater s = refl

pub measure_total : IsTotalOrder cmp_measure
measure_total = then_total (on_total (λ (x : Assignment). x.0) key_total) (on_total (λ (x : Assignment). x.1) nat_cmp_total)

-- which of them the order finds equal
pub at_measure : (x y : Assignment) → is_eq (cmp_measure x y) ≡ assigns x.1 x.0 y
at_measure x y = tied (cmp_key x.0 y.0) (nat_cmp x.1 y.1) ∙ ap (λ b. is_same x.0 y.0 && b) (unsigned_tied x.1 y.1)

turned : (a b : Assignment) (r : Ordering) → cmp_measure a b ≡ r → cmp_measure b a ≡ ordering_reverse r
turned a b r h = measure_total.antisymm b a ∙ ap ordering_reverse h

-- ---- put at its place
passed : (r s t : Ordering) → ordering_then r s ≡ Greater → is_gt (ordering_then r (ordering_then s t)) ≡ true
passed Less s t h = cc
passed Equal Less t h = cc
passed Equal Equal t h = cc
passed Equal Greater t h = refl
passed Greater s t h = refl

stopped : (r s t : Ordering) → ordering_then r s ≡ Less → is_gt (ordering_then r (ordering_then s t)) ≡ false
stopped Less s t h = refl
stopped Equal Less t h = refl
stopped Equal Equal t h = cc
stopped Equal Greater t h = cc
stopped Greater s t h = cc

less_is : (r : Ordering) → is_lt r ≡ true → r ≡ Less
less_is Less h = refl
less_is Equal h = cc
less_is Greater h = cc

module _ (x : Assignment) where
  behind : (y : Assignment) → cmp_measure y x ≡ Less → is_gt (cmp_assignment x y) ≡ true
  behind y h = passed (cmp_key x.0 y.0) (nat_cmp x.1 y.1) (nat_cmp x.2 y.2) (turned y x Less h)

  before : (y : Assignment) → cmp_measure x y ≡ Less → is_gt (cmp_assignment x y) ≡ false
  before y h = stopped (cmp_key x.0 y.0) (nat_cmp x.1 y.1) (nat_cmp x.2 y.2) h

  not_either : (r : Ordering) → is_lt r ≡ false → is_eq (ordering_reverse r) ≡ false → ordering_reverse r ≡ Less
  not_either Less h k = cc
  not_either Equal h k = cc
  not_either Greater h k = refl

  -- one that is not before x and is not its measure comes behind it
  comes_behind : (y : Assignment) → is_lt (cmp_measure y x) ≡ false → assigns x.1 x.0 y ≡ false → cmp_measure x y ≡ Less
  comes_behind y h k =
      turned y x (cmp_measure y x) refl
      ∙ not_either (cmp_measure y x) h (ap is_eq (sym (turned y x (cmp_measure y x) refl)) ∙ at_measure x y ∙ k)

  any_right : (test : Assignment → Bool) (bs rs : List Assignment) → list_any test (bs ++ rs) ≡ false → list_any test rs ≡ false
  any_right test [] rs h = h
  any_right test (b ∷ bs) rs h = any_right test bs rs (by (test b) h)
    where
      by : (a : Bool) → (a || list_any test (bs ++ rs)) ≡ false → list_any test (bs ++ rs) ≡ false
      by true h = cc
      by false h = h

  any_first : (test : Assignment → Bool) (r : Assignment) (rs : List Assignment) → list_any test (r ∷ rs) ≡ false → test r ≡ false
  any_first test r rs h = by (test r) h
    where
      by : (a : Bool) → (a || list_any test rs) ≡ false → a ≡ false
      by true h = cc
      by false h = refl

  -- between those before it and those that are not
  pub placed_between : (bs rs : List Assignment) → AreBefore x bs → IsNotBefore x rs → list_any (assigns x.1 x.0) (bs ++ rs) ≡ false
      → placed cmp_assignment x (bs ++ rs) ≡ bs ++ x ∷ rs
  placed_between [] [] all n l = refl
  placed_between [] (r ∷ rs) all n l =
      ap (λ b. if b then r ∷ placed cmp_assignment x rs else x ∷ r ∷ rs) (before r (comes_behind r n (any_first (assigns x.1 x.0) r rs l)))
  placed_between (b ∷ bs) rs all n l =
      ap (λ g. if g then b ∷ placed cmp_assignment x (bs ++ rs) else x ∷ b ∷ (bs ++ rs)) (behind b (less_is (cmp_measure b x) all.0))
      ∙ ap (λ l. b ∷ l) (placed_between bs rs all.1 n (any_right (assigns x.1 x.0) (b ∷ []) (bs ++ rs) l))

  last_of : (l : Assignment) (bs : List Assignment) (b : Assignment) → AllByRecursion (λ y. cmp_measure b y ≡ Less) (bs ++ l ∷ []) → cmp_measure b l ≡ Less
  last_of l [] b all = all.0
  last_of l (c ∷ bs) b all = last_of l bs b all.1

  -- where the last is before x, all are
  pub all_before : (bs : List Assignment) (l : Assignment) → IsStrictlySortedBy cmp_measure (bs ++ l ∷ []) → is_lt (cmp_measure l x) ≡ true
      → AreBefore x (bs ++ l ∷ [])
  unfolding IsStrictlySortedBy
  all_before [] l s h = (h, tt)
  all_before (b ∷ bs) l s h = (ap is_lt (measure_total.trans b l x (last_of l bs b s.0) (less_is (cmp_measure l x) h)), all_before bs l s.1 h)

  all_placed : (P : Assignment → Type 0) (ys : List Assignment) → P x → AllByRecursion P ys → AllByRecursion P (placed cmp_assignment x ys)
  all_placed P [] p all = (p, tt)
  all_placed P (y ∷ ys) p all = by (is_gt (cmp_assignment x y)) (all_placed P ys p all.1)
    where
      by : (b : Bool) → AllByRecursion P (placed cmp_assignment x ys) → AllByRecursion P (if b then y ∷ placed cmp_assignment x ys else x ∷ y ∷ ys)
      by true rest = (all.0, rest)
      by false rest = (p, all)

  less_than_all : (y : Assignment) (zs : List Assignment) → cmp_measure x y ≡ Less → AllByRecursion (λ z. cmp_measure y z ≡ Less) zs → AllByRecursion (λ z. cmp_measure x z ≡ Less) zs
  less_than_all y [] h all = tt
  less_than_all y (z ∷ zs) h all = (measure_total.trans x y z h all.0, less_than_all y zs h all.1)

  -- the order stays strict
  pub strict_placed : (ys : List Assignment) → IsStrictlySortedBy cmp_measure ys → list_any (assigns x.1 x.0) ys ≡ false → IsStrictlySortedBy cmp_measure (placed cmp_assignment x ys)
  unfolding IsStrictlySortedBy
  strict_placed [] s l = (tt, tt)
  strict_placed (y ∷ ys) s l = by (cmp_measure x y) refl (strict_placed ys s.1 (any_right (assigns x.1 x.0) (y ∷ []) ys l))
    where
      by : (r : Ordering) → cmp_measure x y ≡ r → IsStrictlySortedBy cmp_measure (placed cmp_assignment x ys) → IsStrictlySortedBy cmp_measure (if is_gt (cmp_assignment x y) then y ∷ placed cmp_assignment x ys else x ∷ y ∷ ys)
      by Less e rest =
          subst (λ b. IsStrictlySortedBy cmp_measure (if b then y ∷ placed cmp_assignment x ys else x ∷ y ∷ ys)) (sym (before y e))
          ((e, less_than_all y ys e s.0), s)
      by Equal e rest = let f : true ≡ false = ap is_eq (sym e) ∙ at_measure x y ∙ any_first (assigns x.1 x.0) y ys l in cc
      by Greater e rest =
          let h = turned x y Greater e in
          subst (λ b. IsStrictlySortedBy cmp_measure (if b then y ∷ placed cmp_assignment x ys else x ∷ y ∷ ys)) (sym (behind y h))
          (all_placed (λ z. cmp_measure y z ≡ Less) ys h s.0, rest)

  -- ---- searched
  pub inserted_here : (ys : List Assignment) (at : ℕ) → at ≤ length ys → AllWithin (λ y. cmp_measure y x ≡ Less) ys 0 at → AllWithin (λ y. cmp_measure y x ≡ Greater) ys at (length ys)
      → insert ys at x ≡ placed cmp_assignment x ys
  inserted_here [] zero l low high = refl
  inserted_here [] (suc at) l low high = absurd (omega arith)
  inserted_here (y ∷ ys) zero l low high =
      sym (ap (λ b. if b then y ∷ placed cmp_assignment x ys else x ∷ y ∷ ys) (before y (turned y x Greater (high 0 y (omega arith) (omega arith)))))
  inserted_here (y ∷ ys) (suc at) l low high =
      let rest = inserted_here ys at (omega arith) (λ k d a b. low (suc k) d (omega arith) (omega arith)) (λ k d a b. high (suc k) d (omega arith) (omega arith)) in
      ap (λ l. y ∷ l) rest
      ∙ sym (ap (λ b. if b then y ∷ placed cmp_assignment x ys else x ∷ y ∷ ys) (behind y (low 0 y (omega arith) (omega arith))))

  lacks_each : (ys : List Assignment) → ((k : ℕ) → k < length ys → assigns x.1 x.0 (get_or ys k x) ≡ false) → list_any (assigns x.1 x.0) ys ≡ false
  lacks_each [] h = refl
  lacks_each (y ∷ ys) h =
      let first : assigns x.1 x.0 y ≡ false = h 0 (omega arith) in
      let rest = lacks_each ys (λ k l. h (suc k) (omega arith)) in
      λ i. first i || rest i

  in_order : (ys : List Assignment) → IsStrictlySortedBy cmp_measure ys → IsSortedBy (λ a b. is_lt (cmp_measure a b)) ys
  in_order ys s k d low l = ap is_lt (turned (get_or ys k d) (get_or ys (k + 1) d) Less (Less-from_sorted cmp_measure ys k (k + 1) d s (omega arith) l))

  parted : (ys : List Assignment) (at : ℕ) → IsStrictlySortedBy cmp_measure ys → IsBinarySearchResult (λ y. cmp_measure y x) ys (Err at)
      → AllWithin (λ y. cmp_measure y x ≡ Less) ys 0 at × AllWithin (λ y. cmp_measure y x ≡ Greater) ys at (length ys)
  parted ys at s h = h (searchable_from_sorted measure_total (λ y. y) ys x (in_order ys s))

  pub search_found : (ys : List Assignment) (at : ℕ) → at < length ys → IsBinarySearchResult (λ y. cmp_measure y x) ys (Ok at) → list_any (assigns x.1 x.0) ys ≡ true
  search_found ys at bound h =
      any_passes_from_place (assigns x.1 x.0) ys at (get_or ys at x) (slice_get-get_or ys at x bound)
      (sym (at_measure x (get_or ys at x)) ∙ ap is_eq (turned (get_or ys at x) x Equal (h x)))

  pub search_absent : (ys : List Assignment) (at : ℕ) → IsStrictlySortedBy cmp_measure ys → IsBinarySearchResult (λ y. cmp_measure y x) ys (Err at) → list_any (assigns x.1 x.0) ys ≡ false
  search_absent ys at s h = lacks_each ys (λ k l. sym (at_measure x (get_or ys k x)) ∙ by k l (cases_lt k at))
    where
      by : (k : ℕ) → k < length ys → (k < at) ⊎ (at ≤ k) → is_eq (cmp_measure x (get_or ys k x)) ≡ false
      by k m (inl l) = ap is_eq (turned (get_or ys k x) x Less ((parted ys at s h).0 k x (omega arith) l))
      by k m (inr l) = ap is_eq (turned (get_or ys k x) x Greater ((parted ys at s h).1 k x l m))

  pub search_put : (ys : List Assignment) (at : ℕ) → IsStrictlySortedBy cmp_measure ys → at ≤ length ys → IsBinarySearchResult (λ y. cmp_measure y x) ys (Err at)
      → insert ys at x ≡ placed cmp_assignment x ys
  search_put ys at s l h = let p = parted ys at s h in inserted_here ys at l p.0 p.1

-- ---- each is its own
abbrev Own : List Assignment → Assignment → Type 0
Own all a = find (assigns a.1 a.0) all ≡ Some a

later : (e : Assignment) (es fs : List Assignment) → AllByRecursion (λ y. cmp_measure e y ≡ Less) fs → AllByRecursion (Own es) fs → AllByRecursion (Own (e ∷ es)) fs
later e es [] l a = tt
later e es (f ∷ fs) l a =
    let apart : assigns f.1 f.0 e ≡ false = sym (at_measure f e) ∙ ap is_eq (turned e f Less l.0) in
    (ap (λ b. cond b (Some e) (find (assigns f.1 f.0) es)) apart ∙ a.0, later e es fs l.1 a.1)

own_from : (es : List Assignment) → IsStrictlySortedBy cmp_measure es → AllByRecursion (Own es) es
unfolding IsStrictlySortedBy
own_from [] s = tt
own_from (e ∷ es) s =
    let itself : assigns e.1 e.0 e ≡ true = sym (at_measure e e) ∙ (eq_by_cmp_equiv measure_total).refl e in
    (ap (λ b. cond b (Some e) (find (assigns e.1 e.0) es)) itself, later e es es s.0 (own_from es s.1))

pub all_own : (es : List Assignment) → IsStrictlySortedBy cmp_measure es → All (λ a. find (assigns a.1 a.0) es ≡ Some a) es
all_own es s = All-from_recursion (Own es) es (own_from es s)

-- what the search of std says
pub searched : (x : Assignment) (ys : List Assignment) → IsStrictlySortedBy cmp_measure ys → (r : Result ℕ ℕ) → IsSearchInRange r (length ys) → IsBinarySearchResult (λ y. cmp_measure y x) ys r →
    Searched x.0 x.1 ys r
searched x ys s (Ok at) bound h = record { found = search_found x ys at bound h; within = tt; absent = tt; put = λ number. tt }
searched x ys s (Err at) bound h = record {
  found = tt;
  within = bound;
  absent = search_absent x ys at s h;
  put = λ number. search_put (x.0, x.1, number) ys at s bound h;
}

-- ---- steps between two lists
strict_front : (xs ys : List Assignment) → IsStrictlySortedBy cmp_measure (xs ++ ys) → IsStrictlySortedBy cmp_measure xs
unfolding IsStrictlySortedBy
strict_front [] ys s = tt
strict_front (x ∷ xs) ys s = (all_front xs s.0, strict_front xs ys s.1)
  where
    all_front : (zs : List Assignment) → AllByRecursion (λ y. cmp_measure x y ≡ Less) (zs ++ ys) → AllByRecursion (λ y. cmp_measure x y ≡ Less) zs
    all_front [] a = tt
    all_front (z ∷ zs) a = (a.0, all_front zs a.1)

pub back_parted : (x l : Assignment) (front olds rest news : List Assignment) → olds ≡ front ++ l ∷ [] → news ≡ front ++ l ∷ [] → IsStrictlySortedBy cmp_measure (olds ++ rest)
    → is_lt (cmp_measure l x) ≡ true → AreBefore x news
back_parted x l front olds rest news o n s h =
    subst (AreBefore x) (sym n) (all_before x front l (subst (IsStrictlySortedBy cmp_measure) o (strict_front olds rest s)) h)

pub before_more : (x l : Assignment) (xs news : List Assignment) → news ≡ xs ++ l ∷ [] → AreBefore x xs → is_lt (cmp_measure l x) ≡ true → AreBefore x news
before_more x l xs news n a h = subst (AreBefore x) (sym n) (by xs a)
  where
    by : (zs : List Assignment) → AreBefore x zs → AreBefore x (zs ++ l ∷ [])
    by [] a = (h, tt)
    by (z ∷ zs) a = (a.0, by zs a.1)

pub none_before : (x : Assignment) (xs : List Assignment) → xs ≡ [] → AreBefore x xs
none_before x xs h = subst (AreBefore x) (sym h) tt

-- ---- a node put between them
pub put_between : (x : Assignment) (bs rs news olds : List Assignment) → news ≡ rs ++ x ∷ [] → bs ++ reverse rs ≡ olds → AreBefore x bs → IsNotBefore x (reverse rs)
    → list_any (assigns x.1 x.0) olds ≡ false → bs ++ reverse news ≡ placed cmp_assignment x olds
put_between x bs rs news olds n e b r l =
    ap (λ ys. bs ++ reverse ys) n
    ∙ ap (λ ys. bs ++ ys) (reverse-append rs (x ∷ []))
    ∙ sym (placed_between x bs (reverse rs) b r (ap (list_any (assigns x.1 x.0)) e ∙ l))
    ∙ ap (placed cmp_assignment x) e

pub none_strict : (xs : List Assignment) → xs ≡ [] → IsStrictlySortedBy cmp_measure xs
unfolding IsStrictlySortedBy
none_strict xs e = subst (IsStrictlySortedBy cmp_measure) (sym e) tt

pub put_strict : (x : Assignment) (ys news : List Assignment) → IsStrictlySortedBy cmp_measure ys → list_any (assigns x.1 x.0) ys ≡ false → news ≡ placed cmp_assignment x ys
    → IsStrictlySortedBy cmp_measure news
put_strict x ys news s l e = subst (IsStrictlySortedBy cmp_measure) (sym e) (strict_placed x ys s l)

-- ---- keys that are taken from the end
pub popped_front : (olds news : List Tuple) (key : Tuple) (rest all : List Tuple) → olds ≡ news ++ key ∷ [] → olds ++ rest ≡ all → news ++ key ∷ rest ≡ all
popped_front olds news key rest all o e = sym (append_assoc news (key ∷ []) rest) ∙ sym (ap (λ l. l ++ rest) o) ∙ e

pub dropped : (news rest all : List Tuple) → news ++ rest ≡ all → drop (length news) all ≡ rest
dropped news rest all e = sym (ap (drop (length news)) e) ∙ by news
  where
    by : (ks : List Tuple) → drop (length ks) (ks ++ rest) ≡ rest
    by [] = refl
    by (k ∷ ks) = by ks

fresh_behind : (had : Tuple → Bool) (news rest : List Tuple) → Fresh had (news ++ rest) → Fresh had rest
fresh_behind had [] rest f = f
fresh_behind had (k ∷ ks) rest f = fresh_behind had ks rest f.1

pub popped_lacking : (m number : ℕ) (nodes now : List Assignment) (news : List Tuple) (key : Tuple) (rest all : List Tuple) → news ++ key ∷ rest ≡ all
    → AreUnassigned m nodes all → now ≡ placed_all cmp_assignment (map (assigned_by m number) rest) nodes → list_any (assigns m key) now ≡ false
popped_lacking m number nodes now news key rest all e f h =
    let had : Tuple → Bool = λ k. list_any (assigns m k) nodes in
    let fresh = fresh_behind had news (key ∷ rest) (subst (Fresh had) (sym e) f) in
    node_lacking m number key rest nodes now fresh.0 h
