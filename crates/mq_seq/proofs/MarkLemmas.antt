-- The keys that are marked among those that ascend.
use Rattle.std.proofs.Common.{◌≡◌, ℕ, zero, suc, ◌+◌, ◌<◌, ◌≤◌, arith, List, [], ◌∷◌, Bool, true, false, not, ◌||◌, cond, get_or, length, replicate, Some, Ordering, Less, Equal, Greater, refl, sym, ap, subst, ◌∙◌}
use Rattle.std.specs.Prelude.{if◌then◌else◌, slice_set}
use Rattle.std.specs.List.{AllByRecursion, insert}
use Rattle.std.specs.List.Sorted.{IsStrictlySortedBy}
use Rattle.std.specs.Ordering.{is_eq, match_ordering}
use Rattle.std.proofs.lemmas.Map.Keys.{sorted_head, sorted_tail}
use Rattle.mq_values.specs.Order.{cmp_key}
use Rattle.mq_values.specs.OrderTells.{key_itself, same_key}
use Rattle.mq_ir.specs.Keys.{Tuple, is_among, is_same}
use Rattle.mq_dim_index.specs.Places.{is_there, place_of, with_key}
use Rattle.mq_seq.specs.Marks.{marked_keys}
use Rattle.mq_seq.proofs.NoteLemmas.{turned}
use Rattle.mq_seq.proofs.PlaceLemmas.{none_after, place_in, stands, the_place, with_there}

-- what holds of all keys holds of the marked ones
all_marked : (P : Tuple → Type 0) (ks : List Tuple) (ms : List Bool) → AllByRecursion P ks → AllByRecursion P (marked_keys ks ms)
all_marked P [] ms a = tt
all_marked P (k ∷ ks) [] a = tt
all_marked P (k ∷ ks) (true ∷ ms) a = (a.0, all_marked P ks ms a.1)
all_marked P (k ∷ ks) (false ∷ ms) a = all_marked P ks ms a.1

-- a key before all of these goes to the front
put_first : (key : Tuple) (ks : List Tuple) → AllByRecursion (λ y. cmp_key key y ≡ Less) ks → with_key ks key ≡ key ∷ ks
put_first key [] a = refl
put_first key (y ∷ ys) a = ap (λ r. match_ordering r (key ∷ y ∷ ys) (y ∷ ys) (y ∷ with_key ys key)) a.0

-- a mark that is set puts its key to the marked ones
marked_once : (key : Tuple) (ks : List Tuple) (ms : List Bool) → length ms ≡ length ks → IsStrictlySortedBy cmp_key ks → is_there ks key ≡ true
    → marked_keys ks (slice_set ms (place_in ks key) true) ≡ with_key (marked_keys ks ms) key
marked_once key [] ms h s t = absurd (cc)
marked_once key (k ∷ ks) [] h s t = absurd (omega arith)
marked_once key (k ∷ ks) (b ∷ ms) h s t = by (cmp_key key k) refl t (marked_once key ks ms (omega arith) (sorted_tail cmp_key k ks s)) b
  where
    n : ℕ
    n = place_in ks key

    rest : List Tuple
    rest = marked_keys ks ms

    put : (r : Ordering) → cmp_key key k ≡ r → with_key (k ∷ rest) key ≡ match_ordering r (key ∷ k ∷ rest) (k ∷ rest) (k ∷ with_key rest key)
    put r e = ap (λ r. match_ordering r (key ∷ k ∷ rest) (k ∷ rest) (k ∷ with_key rest key)) e

    first : key ≡ k → with_key rest key ≡ k ∷ rest
    first same =
        put_first key rest (subst (λ x. AllByRecursion (λ y. cmp_key x y ≡ Less) rest) (sym same) (all_marked (λ y. cmp_key k y ≡ Less) ks ms (sorted_head cmp_key k ks s)))
        ∙ ap (λ x. x ∷ rest) same

    by : (r : Ordering) → cmp_key key k ≡ r → (is_eq r || is_there ks key) ≡ true → (is_there ks key ≡ true → marked_keys ks (slice_set ms n true) ≡ with_key rest key) → (b : Bool)
        → marked_keys (k ∷ ks) (slice_set (b ∷ ms) (cond (not (is_eq r)) (1 + n) 0) true) ≡ with_key (if b then k ∷ rest else rest) key
    by Less e g more b =
        let none = none_after key k ks e (sorted_head cmp_key k ks s) in
        absurd (cc)
    by Equal e g more true = sym (put Equal e)
    by Equal e g more false = sym (first (same_key key k e))
    by Greater e g more true =
        let one : 1 + n ≡ suc n = omega arith in
        ap (λ i. marked_keys (k ∷ ks) (slice_set (true ∷ ms) i true)) one ∙ ap (λ l. k ∷ l) (more g) ∙ sym (put Greater e)
    by Greater e g more false =
        let one : 1 + n ≡ suc n = omega arith in
        ap (λ i. marked_keys (k ∷ ks) (slice_set (false ∷ ms) i true)) one ∙ more g

pub marked_where_found : (key : Tuple) (ks : List Tuple) (ms : List Bool) (at : ℕ) → length ms ≡ length ks → IsStrictlySortedBy cmp_key ks → place_of ks key ≡ Some at
    → marked_keys ks (slice_set ms at true) ≡ with_key (marked_keys ks ms) key
marked_where_found key ks ms at h s e =
    ap (λ n. marked_keys ks (slice_set ms n true)) (sym (the_place (place_in ks key) (length ks) at e)) ∙ marked_once key ks ms h s (stands key ks at e)

-- one more key without a mark
pub unmarked : (key : Tuple) (ks : List Tuple) (ms : List Bool) (at : ℕ) → length ms ≡ length ks → at ≤ length ks → marked_keys (insert ks at key) (insert ms at false) ≡ marked_keys ks ms
unmarked key ks ms zero h l = refl
unmarked key [] ms (suc at) h l = absurd (omega arith)
unmarked key (k ∷ ks) [] (suc at) h l = absurd (omega arith)
unmarked key (k ∷ ks) (b ∷ ms) (suc at) h l = ap (λ rest. if b then k ∷ rest else rest) (unmarked key ks ms at (omega arith) (omega arith))

-- nothing is marked at first
pub none_marked : (ks : List Tuple) (n : ℕ) → marked_keys ks (replicate n false) ≡ []
none_marked [] n = refl
none_marked (k ∷ ks) zero = refl
none_marked (k ∷ ks) (suc n) = none_marked ks n

-- a key before all of these is none of them
none_among : (k : Tuple) (ks : List Tuple) → AllByRecursion (λ y. cmp_key k y ≡ Less) ks → is_among ks k ≡ false
none_among k [] a = refl
none_among k (y ∷ ys) a = let first : is_same k y ≡ false = ap is_eq a.0 in let rest = none_among k ys a.1 in λ i. first i || rest i

at_place : (P : Tuple → Type 0) (ks : List Tuple) (at : ℕ) (other : Tuple) → AllByRecursion P ks → at < length ks → P (get_or ks at other)
at_place P [] at other a l = absurd (omega arith)
at_place P (k ∷ ks) zero other a l = a.0
at_place P (k ∷ ks) (suc at) other a l = at_place P ks at other a.1 (omega arith)

-- the mark at a place tells whether the key there is marked
pub mark_told : (ks : List Tuple) (ms : List Bool) (at : ℕ) (other : Tuple) (b : Bool) → length ms ≡ length ks → IsStrictlySortedBy cmp_key ks → at < length ks
    → is_among (marked_keys ks ms) (get_or ks at other) ≡ get_or ms at b
mark_told [] ms at other b h s l = absurd (omega arith)
mark_told (k ∷ ks) [] at other b h s l = absurd (omega arith)
mark_told (k ∷ ks) (m ∷ ms) zero other b h s l = by m
  where
    rest : List Tuple
    rest = marked_keys ks ms

    by : (m : Bool) → is_among (if m then k ∷ rest else rest) k ≡ m
    by true = ap (λ r. is_eq r || is_among rest k) (key_itself k)
    by false = none_among k rest (all_marked (λ y. cmp_key k y ≡ Less) ks ms (sorted_head cmp_key k ks s))
mark_told (k ∷ ks) (m ∷ ms) (suc at) other b h s l = by m (mark_told ks ms at other b (omega arith) (sorted_tail cmp_key k ks s) (omega arith))
  where
    rest : List Tuple
    rest = marked_keys ks ms

    x : Tuple
    x = get_or ks at other

    differs : is_same x k ≡ false
    differs = turned x k ∙ ap is_eq (at_place (λ y. cmp_key k y ≡ Less) ks at other (sorted_head cmp_key k ks s) (omega arith))

    by : (m : Bool) → is_among rest x ≡ get_or ms at b → is_among (if m then k ∷ rest else rest) x ≡ get_or ms at b
    by true more = ap (λ c. c || is_among rest x) differs ∙ more
    by false more = more

-- marks that are kept where a key comes
pub record MarksKept (ks : List Tuple) (ms : List Bool) (now : List Tuple) (more : List Bool) : Type 0 where
  pub long : length more ≡ length now
  pub same : marked_keys now more ≡ marked_keys ks ms

pub marks_kept : (key : Tuple) (ks : List Tuple) (ms : List Bool) (now : List Tuple) (more : List Bool) → IsStrictlySortedBy cmp_key ks → length ms ≡ length ks → now ≡ with_key ks key
    → (length ms ≡ length now → more ≡ ms) → (is_there ks key ≡ false → length more ≡ length now) → (is_there ks key ≡ false → marked_keys now more ≡ marked_keys ks ms) → MarksKept ks ms now more
marks_kept key ks ms now more s h e old long same = by (is_there ks key) refl
  where
    by : (b : Bool) → is_there ks key ≡ b → MarksKept ks ms now more
    by false t = record { long = long t; same = same t }
    by true t =
        let is : now ≡ ks = e ∙ with_there key ks s t in
        let kept : more ≡ ms = old (h ∙ ap length (sym is)) in
        record { long = ap length kept ∙ h ∙ ap length (sym is); same = λ i. marked_keys (is i) (kept i) }
