-- Lists of keys that ascend, each once.
use Rattle.std.proofs.Common.{◌≡◌, Bool, true, false, ◌&&◌, ◌||◌, List, [], ◌∷◌, Ordering, Less, Equal, Greater, refl, sym, ap, subst, ◌∙◌}
use Rattle.std.specs.Prelude.{if◌then◌else◌}
use Rattle.std.specs.List.{AllByRecursion, filter}
use Rattle.std.specs.List.Sorted.{IsStrictlySortedBy}
use Rattle.std.specs.Ordering.{is_eq, is_gt, ordering_reverse}
use Rattle.std.proofs.lemmas.Bool.{or_from}
use Rattle.std.proofs.lemmas.List.Kept.{IsStrictlySortedBy-filter}
use Rattle.mq_values.specs.Order.{cmp_key}
use Rattle.mq_values.specs.OrderLaws.{key_total}
use Rattle.mq_values.specs.OrderTells.{same_key}
use Rattle.mq_ir.specs.EachLaws.{Each}
use Rattle.mq_ir.specs.Keys.{Tuple, is_among, is_same}
use Rattle.mq_ir.specs.Partitions.{ascending, placed}
use Rattle.mq_change_laws.specs.ReachLaws.{told_alike}
use Rattle.mq_change_laws.specs.SoundLaws.{same_is}
use Rattle.mq_change_laws.specs.KeyLaws.{same_itself, any_ascending, among_kept, each_among}
use Rattle.mq_change_laws.specs.OnceLaws.{Distinct}

-- ---- keys that ascend
abbrev pub Below : Tuple → List Tuple → Type 0
Below x = AllByRecursion (λ y. cmp_key x y ≡ Less)

pub below_through : (x y : Tuple) (zs : List Tuple) → cmp_key x y ≡ Less → Below y zs → Below x zs
below_through x y [] h b = tt
below_through x y (z ∷ zs) h b = (key_total.trans x y z h b.0, below_through x y zs h b.1)

below_placed : (y x : Tuple) (zs : List Tuple) → cmp_key y x ≡ Less → Below y zs → Below y (placed cmp_key x zs)
below_placed y x [] h b = (h, tt)
below_placed y x (z ∷ zs) h b = by (is_gt (cmp_key x z)) (below_placed y x zs h b.1)
  where
    by : (g : Bool) → Below y (placed cmp_key x zs) → Below y (if g then z ∷ placed cmp_key x zs else x ∷ z ∷ zs)
    by true r = (b.0, r)
    by false r = (h, b)

pub below_apart : (x : Tuple) (ys : List Tuple) → Below x ys → is_among ys x ≡ false
below_apart x [] b = refl
below_apart x (y ∷ ys) b = or_from (is_same x y) (is_among ys x) (ap is_eq b.0) (below_apart x ys b.1)

pub strict_distinct : (xs : List Tuple) → IsStrictlySortedBy cmp_key xs → Distinct xs
unfolding IsStrictlySortedBy
strict_distinct [] s = tt
strict_distinct (x ∷ xs) s = (below_apart x xs s.0, strict_distinct xs s.1)

strict_placed : (x : Tuple) (ys : List Tuple) → is_among ys x ≡ false → IsStrictlySortedBy cmp_key ys
    → IsStrictlySortedBy cmp_key (placed cmp_key x ys)
unfolding IsStrictlySortedBy
strict_placed x [] h s = (tt, tt)
strict_placed x (y ∷ ys) h s = by (cmp_key x y) refl (strict_placed x ys)
  where
    by : (o : Ordering) → cmp_key x y ≡ o
        → (is_among ys x ≡ false → IsStrictlySortedBy cmp_key ys → IsStrictlySortedBy cmp_key (placed cmp_key x ys)) →
        IsStrictlySortedBy cmp_key (if is_gt o then y ∷ placed cmp_key x ys else x ∷ y ∷ ys)
    by Less e r = ((e, below_through x y ys e s.0), s)
    by Equal e r = let g : true ≡ false = sym (ap (λ o. is_eq o || is_among ys x) e) ∙ h in cc
    by Greater e r =
        let g : is_among ys x ≡ false = sym (ap (λ o. is_eq o || is_among ys x) e) ∙ h in
        (below_placed y x ys (key_total.antisymm y x ∙ ap ordering_reverse e) s.0, r g s.1)

pub strict_ascending : (xs : List Tuple) → Distinct xs → IsStrictlySortedBy cmp_key (ascending cmp_key xs)
unfolding IsStrictlySortedBy
strict_ascending [] d = tt
strict_ascending (x ∷ xs) d = strict_placed x (ascending cmp_key xs) (any_ascending cmp_key (is_same x) xs ∙ d.0) (strict_ascending xs d.1)

-- ---- two lists that ascend are one where the same keys are among them
module _ (x y : Tuple) (xs ys : List Tuple) where
  -- the lesser head of two lists is among one of them alone
  lesser_missing : cmp_key x y ≡ Less → Below y ys → is_among (x ∷ xs) x ≡ is_among (y ∷ ys) x → true ≡ false
  lesser_missing h b e =
      sym (ap (λ s. s || is_among xs x) (same_itself x)) ∙ e
      ∙ or_from (is_same x y) (is_among ys x) (ap is_eq h) (below_apart x ys (below_through x y ys h b))

same_rest : (x : Tuple) (xs ys : List Tuple) → Below x xs → Below x ys → ((q : Tuple) → is_among (x ∷ xs) q ≡ is_among (x ∷ ys) q)
    → (q : Tuple) → is_among xs q ≡ is_among ys q
same_rest x xs ys a b h q = by (is_same q x) refl (h q)
  where
    by : (s : Bool) → is_same q x ≡ s → (s || is_among xs q) ≡ (s || is_among ys q) → is_among xs q ≡ is_among ys q
    by true e g = ap (is_among xs) (same_is q x e) ∙ below_apart x xs a ∙ sym (ap (is_among ys) (same_is q x e) ∙ below_apart x ys b)
    by false e g = g

pub one_set : (xs ys : List Tuple) → IsStrictlySortedBy cmp_key xs → IsStrictlySortedBy cmp_key ys
    → ((q : Tuple) → is_among xs q ≡ is_among ys q) → xs ≡ ys
unfolding IsStrictlySortedBy
one_set [] [] s t h = refl
one_set [] (y ∷ ys) s t h = let e : false ≡ true = h y ∙ ap (λ s. s || is_among ys y) (same_itself y) in cc
one_set (x ∷ xs) [] s t h = let e : true ≡ false = sym (ap (λ s. s || is_among xs x) (same_itself x)) ∙ h x in cc
one_set (x ∷ xs) (y ∷ ys) s t h = by (cmp_key x y) refl (one_set xs ys s.1 t.1)
  where
    by : (r : Ordering) → cmp_key x y ≡ r → (((q : Tuple) → is_among xs q ≡ is_among ys q) → xs ≡ ys) → x ∷ xs ≡ y ∷ ys
    by Less e f = let g = lesser_missing x y xs ys e t.0 (h x) in cc
    by Greater e f = let g = lesser_missing y x ys xs (key_total.antisymm y x ∙ ap ordering_reverse e) s.0 (sym (h y)) in cc
    by Equal e f =
        let p : x ≡ y = same_key x y e in
        let below : Below x ys = subst (λ z. Below z ys) (sym p) t.0 in
        let rest : xs ≡ ys = f (same_rest x xs ys s.0 below (λ q. h q ∙ sym (ap (λ z. is_among (z ∷ ys) q) p))) in
        λ i. p i ∷ rest i

-- a test keeps the same of two lists that ascend where each key that it keeps is among both
module _ (p : Tuple → Bool) (a b : List Tuple) where
  abbrev pub Shared : Tuple → Type 0
  Shared q = is_among a q ≡ is_among b q

  one_side : (xs ys : List Tuple) → Each (λ q. is_among xs q ≡ is_among ys q) (filter p xs) → (q : Tuple)
      → is_among (filter p xs) q ≡ true → is_among (filter p ys) q ≡ true
  one_side xs ys h q m =
      let alike : is_among xs q ≡ is_among ys q = each_among (λ q. is_among xs q ≡ is_among ys q) (filter p xs) h q m in
      among_kept p q ys ∙ ap (λ s. p q && s) (sym alike) ∙ sym (among_kept p q xs) ∙ m

  pub one_filter : IsStrictlySortedBy cmp_key a → IsStrictlySortedBy cmp_key b → Each Shared (filter p a)
      → Each (λ q. is_among b q ≡ is_among a q) (filter p b) → filter p a ≡ filter p b
  one_filter s t h k =
      one_set (filter p a) (filter p b) (IsStrictlySortedBy-filter cmp_key p a s) (IsStrictlySortedBy-filter cmp_key p b t)
      (λ q. told_alike (is_among (filter p a) q) (is_among (filter p b) q) (one_side a b h q) (one_side b a k q))
