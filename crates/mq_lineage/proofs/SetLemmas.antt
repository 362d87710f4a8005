-- Lists that ascend, each item once, by an order that tells items apart: what is put into them, and when two are one.
use Rattle.std.proofs.Common.{◌≡◌, Bool, true, false, ◌&&◌, ◌||◌, List, [], ◌∷◌, cond, Ordering, Less, Equal, Greater, refl, sym, ap, ◌∙◌}
use Rattle.std.specs.BTreeSet.{insert_key}
use Rattle.std.specs.Cmp.{IsTotalOrder, unsigned_Decides, unsigned_ties}
use Rattle.std.specs.List.{AllByRecursion, filter, fold, list_any}
use Rattle.std.specs.List.Sorted.{IsStrictlySortedBy}
use Rattle.std.specs.Ordering.{is_eq, is_lt, match_ordering, nat_cmp, ordering_reverse, ordering_then}
use Rattle.mq_values.specs.Order.{cmp_key}
use Rattle.mq_values.specs.OrderTells.{same_key}
use Rattle.mq_ir.specs.declared.query.CellName.{CellName}
use Rattle.mq_ir.specs.Derivations.{cmp_name}
use Rattle.mq_ir.specs.Rising.{Low, Rising}
use Rattle.mq_ir.specs.SortLaws.{one_rising, tied}

equal_is : (r : Ordering) → is_eq r ≡ true → r ≡ Equal
equal_is Less h = cc
equal_is Equal h = refl
equal_is Greater h = cc

once : (a b : Bool) → (a || b) ≡ (a || (a || b))
once true b = refl
once false b = refl

swapped : (a b c : Bool) → (b || (a || c)) ≡ (a || (b || c))
swapped true true c = refl
swapped true false c = refl
swapped false true c = refl
swapped false false c = refl

moved : (a b c : Bool) → (b || (a || c)) ≡ ((a || b) || c)
moved true true c = refl
moved true false c = refl
moved false b c = refl

module _ {K : Type 0} {R : K → K → Ordering} (o : IsTotalOrder R) (one : (x y : K) → R x y ≡ Equal → x ≡ y) where
  abbrev pub among : List K → K → Bool
  among xs q = list_any (tied o q) xs

  abbrev Below : K → List K → Type 0
  Below x = AllByRecursion (λ y. R x y ≡ Less)

  below_with : (x k : K) (ys : List K) → R x k ≡ Less → Below x ys → Below x (insert_key R ys k)
  below_with x k [] h b = (h, tt)
  below_with x k (y ∷ ys) h b = by (R k y) (below_with x k ys h b.1)
    where
      by : (r : Ordering) → Below x (insert_key R ys k) → Below x (match_ordering r (k ∷ y ∷ ys) (y ∷ ys) (y ∷ insert_key R ys k))
      by Less rest = (h, b)
      by Equal rest = b
      by Greater rest = (b.0, rest)

  below_through : (x y : K) (zs : List K) → R x y ≡ Less → Below y zs → Below x zs
  below_through x y [] h b = tt
  below_through x y (z ∷ zs) h b = (o.trans x y z h b.0, below_through x y zs h b.1)

  -- an item that is put in
  strict_with : (k : K) (xs : List K) → IsStrictlySortedBy R xs → IsStrictlySortedBy R (insert_key R xs k)
  unfolding IsStrictlySortedBy
  strict_with k [] s = (tt, tt)
  strict_with k (x ∷ xs) s = by (R k x) refl (strict_with k xs s.1)
    where
      by : (r : Ordering) → R k x ≡ r → IsStrictlySortedBy R (insert_key R xs k)
          → IsStrictlySortedBy R (match_ordering r (k ∷ x ∷ xs) (x ∷ xs) (x ∷ insert_key R xs k))
      by Less e rest = ((e, below_through k x xs e s.0), s)
      by Equal e rest = s
      by Greater e rest = (below_with x k xs (o.antisymm x k ∙ ap ordering_reverse e) s.0, rest)

  among_with : (q k : K) (xs : List K) → among (insert_key R xs k) q ≡ (tied o q k || among xs q)
  among_with q k [] = refl
  among_with q k (x ∷ xs) = by (R k x) refl (among_with q k xs)
    where
      by : (r : Ordering) → R k x ≡ r → among (insert_key R xs k) q ≡ (tied o q k || among xs q)
          → among (match_ordering r (k ∷ x ∷ xs) (x ∷ xs) (x ∷ insert_key R xs k)) q ≡ (tied o q k || (tied o q x || among xs q))
      by Less e h = refl
      by Equal e h = once (tied o q x) (among xs q) ∙ ap (λ y. tied o q y || (tied o q x || among xs q)) (sym (one k x e))
      by Greater e h = ap (λ b. tied o q x || b) h ∙ swapped (tied o q k) (tied o q x) (among xs q)

  -- items that are put in one after another
  pub strict_folded : (xs set : List K) → IsStrictlySortedBy R set → IsStrictlySortedBy R (fold (insert_key R) set xs)
  strict_folded [] set s = s
  strict_folded (x ∷ xs) set s = strict_folded xs (insert_key R set x) (strict_with x set s)

  pub among_folded : (q : K) (xs set : List K) → among (fold (insert_key R) set xs) q ≡ (among xs q || among set q)
  among_folded q [] set = refl
  among_folded q (x ∷ xs) set =
      among_folded q xs (insert_key R set x)
      ∙ ap (λ b. among xs q || b) (among_with q x set)
      ∙ moved (tied o q x) (among xs q) (among set q)

  -- what a test keeps
  pub among_kept : (p : K → Bool) (q : K) (xs : List K) → among (filter p xs) q ≡ (p q && among xs q)
  among_kept p q [] = by (p q)
    where
      by : (b : Bool) → false ≡ (b && false)
      by true = refl
      by false = refl
  among_kept p q (x ∷ xs) = by (p x) refl (tied o q x) refl (among_kept p q xs)
    where
      turned : (a b : Bool) → a ≡ (b && a) → (c : Bool) → b ≡ c → a ≡ (c && a)
      turned a b h c e = h ∙ ap (λ d. d && a) e

      by : (b : Bool) → p x ≡ b → (t : Bool) → tied o q x ≡ t → among (filter p xs) q ≡ (p q && among xs q)
          → among (cond b (x ∷ filter p xs) (filter p xs)) q ≡ (p q && (t || among xs q))
      by true e true f h =
          let same : p q ≡ true = ap p (one q x (equal_is (R q x) f)) ∙ e in
          ap (λ s. s || among (filter p xs) q) f ∙ sym (ap (λ s. s && true) same)
      by true e false f h = ap (λ s. s || among (filter p xs) q) f ∙ h
      by false e true f h =
          let same : p q ≡ false = ap p (one q x (equal_is (R q x) f)) ∙ e in
          h ∙ ap (λ s. s && among xs q) same ∙ sym (ap (λ s. s && true) same)
      by false e false f h = h

  -- ---- two such lists are one where the same items are among them
  low_below : (x : K) (ys : List K) → Below x ys → Low R x ys
  low_below x [] b = tt
  low_below x (y ∷ ys) b = (ap is_lt (o.antisymm y x ∙ ap ordering_reverse b.0), low_below x ys b.1)

  rising_strict : (xs : List K) → IsStrictlySortedBy R xs → Rising R xs
  unfolding IsStrictlySortedBy
  rising_strict [] s = tt
  rising_strict (x ∷ xs) s = (low_below x xs s.0, rising_strict xs s.1)

  none_below : (x : K) (ys : List K) → Below x ys → filter (tied o x) ys ≡ []
  none_below x [] b = refl
  none_below x (y ∷ ys) b = ap (λ r. cond (is_eq r) (y ∷ filter (tied o x) ys) (filter (tied o x) ys)) b.0 ∙ none_below x ys b.1

  tied_strict : (q : K) (xs : List K) → IsStrictlySortedBy R xs → filter (tied o q) xs ≡ cond (among xs q) (q ∷ []) []
  unfolding IsStrictlySortedBy
  tied_strict q [] s = refl
  tied_strict q (x ∷ xs) s = by (tied o q x) refl (tied_strict q xs s.1)
    where
      by : (t : Bool) → tied o q x ≡ t → filter (tied o q) xs ≡ cond (among xs q) (q ∷ []) []
          → cond t (x ∷ filter (tied o q) xs) (filter (tied o q) xs) ≡ cond (t || among xs q) (q ∷ []) []
      by true e h =
          let same : q ≡ x = one q x (equal_is (R q x) e) in
          let none = none_below x xs s.0 in
          (λ i. sym same i ∷ filter (tied o q) xs) ∙ ap (λ l. q ∷ l) (ap (λ y. filter (tied o y) xs) same ∙ none)
      by false e h = h

  pub one_set : (xs ys : List K) → IsStrictlySortedBy R xs → IsStrictlySortedBy R ys → ((q : K) → among xs q ≡ among ys q) → xs ≡ ys
  one_set xs ys s t h =
      one_rising o xs ys (rising_strict xs s) (rising_strict ys t)
      (λ q. tied_strict q xs s ∙ ap (λ b. cond b (q ∷ []) []) (h q) ∙ sym (tied_strict q ys t))

-- ---- measures of cells
-- those that their order does not tell apart are one
pub one_name : (a b : CellName) → cmp_name a b ≡ Equal → a ≡ b
one_name a b h = by (cmp_key a.key b.key) refl (nat_cmp a.measure b.measure) refl h
  where
    by : (r : Ordering) → cmp_key a.key b.key ≡ r → (s : Ordering) → nat_cmp a.measure b.measure ≡ s → ordering_then r s ≡ Equal → a ≡ b
    by Less e s f h = cc
    by Greater e s f h = cc
    by Equal e s f h =
        let key : a.key ≡ b.key = same_key a.key b.key e in
        let measure : a.measure ≡ b.measure =
        (unsigned_Decides a.measure b.measure).0 (unsigned_ties a.measure b.measure ∙ ap is_eq (f ∙ h)) in
        λ i. record { key = key i; measure = measure i }
