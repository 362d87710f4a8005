-- One of keys in strictly ascending order is taken away.
use Rattle.std.proofs.Common.{◌≡◌, ℕ, zero, suc, ◌<◌, List, [], ◌∷◌, Bool, true, false, ◌||◌, length, get_or, Less, Equal, refl, sym, ap, ◌∙◌, subst, arith}
use Rattle.std.specs.Prelude.{cond}
use Rattle.std.specs.List.{AllByRecursion, remove}
use Rattle.std.specs.List.Sorted.{IsStrictlySortedBy}
use Rattle.std.specs.Ordering.{is_eq, ordering_reverse}
use Rattle.std.proofs.lemmas.Map.Keys.{Less-from_sorted}
use Rattle.mq_values.specs.Order.{cmp_key}
use Rattle.mq_values.specs.OrderLaws.{key_total}
use Rattle.mq_ir.specs.Keys.{Tuple, is_among, is_same}
use Rattle.mq_tables.specs.KeyOrder.{LosesOne}
use Rattle.mq_tables.proofs.LoseLemmas.{is_equal, same_turned}

-- a key that is less than all others is not among them
not_among_greater : (y : Tuple) (zs : List Tuple) → AllByRecursion (λ z. cmp_key y z ≡ Less) zs → is_among zs y ≡ false
not_among_greater y [] all = refl
not_among_greater y (z ∷ zs) all = λ i. is_eq (all.0 i) || not_among_greater y zs all.1 i

among_without : (keys : List Tuple) (at : ℕ) (key q : Tuple) → IsStrictlySortedBy cmp_key keys → at < length keys → get_or keys at key ≡ key
    → is_among (remove keys at) q ≡ cond (is_same key q) false (is_among keys q)
unfolding IsStrictlySortedBy
among_without [] at key q s l e = absurd (omega (arith, l))
among_without (y ∷ keys) zero key q s l e = by (is_same key q) refl
  where
    by : (b : Bool) → is_same key q ≡ b → is_among keys q ≡ cond b false (is_same q y || is_among keys q)
    by true h = ap (is_among keys) (sym (is_equal key q h) ∙ sym e) ∙ not_among_greater y keys s.0
    by false h = ap (λ b. b || is_among keys q) (sym (ap (is_same q) e ∙ same_turned q key ∙ h))
among_without (y ∷ keys) (suc i) key q s l e =
    ap (λ b. is_same q y || b) (among_without keys i key q s.1 (omega (arith, l)) e)
    ∙ by (is_same key q) refl
  where
    below : cmp_key y key ≡ Less
    below = sym (ap (cmp_key y) e) ∙ Less-from_sorted cmp_key (y ∷ keys) 0 (suc i) key s (omega arith) l

    by : (b : Bool) → is_same key q ≡ b → (is_same q y || cond b false (is_among keys q)) ≡ cond b false (is_same q y || is_among keys q)
    by false h = refl
    by true h = ap (λ k. is_same k y || false) (sym (is_equal key q h)) ∙ ap (λ r. is_eq r || false) (key_total.antisymm key y ∙ ap ordering_reverse below)

all_without : (P : Tuple → Type 0) (keys : List Tuple) (at : ℕ) → AllByRecursion P keys → AllByRecursion P (remove keys at)
all_without P [] at all = all_none at
  where
    all_none : (at : ℕ) → AllByRecursion P (remove [] at)
    all_none zero = tt
    all_none (suc at) = tt
all_without P (y ∷ keys) zero all = all.1
all_without P (y ∷ keys) (suc i) all = (all.0, all_without P keys i all.1)

ascends_without : (keys : List Tuple) (at : ℕ) → IsStrictlySortedBy cmp_key keys → at < length keys → IsStrictlySortedBy cmp_key (remove keys at)
unfolding IsStrictlySortedBy
ascends_without [] at s l = absurd (omega (arith, l))
ascends_without (y ∷ keys) zero s l = s.1
ascends_without (y ∷ keys) (suc i) s l = (all_without (λ k. cmp_key y k ≡ Less) keys i s.0, ascends_without keys i s.1 (omega (arith, l)))

-- it is taken away at the place where it is found
pub lost_at : (keys left : List Tuple) (key : Tuple) (at : ℕ) → IsStrictlySortedBy cmp_key keys → at < length keys → cmp_key (get_or keys at key) key ≡ Equal
    → left ≡ remove keys at → LosesOne key keys left
lost_at keys left key at s l h e q = ap (λ l. is_among l q) e ∙ among_without keys at key q s l (is_equal (get_or keys at key) key (ap is_eq h))

pub ascends_still : (keys left : List Tuple) (at : ℕ) → IsStrictlySortedBy cmp_key keys → at < length keys → left ≡ remove keys at → IsStrictlySortedBy cmp_key left
ascends_still keys left at s l e = subst (IsStrictlySortedBy cmp_key) (sym e) (ascends_without keys at s l)

-- a key that is not among them
pub lost_none : (keys : List Tuple) (key : Tuple) → is_among keys key ≡ false → LosesOne key keys keys
lost_none keys key n q = by (is_same key q) refl
  where
    by : (b : Bool) → is_same key q ≡ b → is_among keys q ≡ cond b false (is_among keys q)
    by true h = ap (is_among keys) (sym (is_equal key q h)) ∙ n
    by false h = refl
