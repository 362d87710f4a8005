-- Partitions, and conversions.
use Rattle.std.proofs.Common.{◌≡◌, ℕ, ◌≤◌, ◌==◌, List, [], ◌∷◌, Bool, true, false, ◌||◌, map, take, Ordering, Less, Equal, Greater, refl, sym, ap, ◌∙◌, arith}
use Rattle.std.specs.Prelude.{if◌then◌else◌}
use Rattle.std.specs.Cmp.{unsigned_Decides}
use Rattle.std.specs.List.{AllByRecursion}
use Rattle.std.specs.List.Sorted.{IsStrictlySortedBy}
use Rattle.std.specs.Ordering.{is_eq, is_gt, ordering_reverse}
use Rattle.mq_values.specs.Order.{cmp_key}
use Rattle.mq_values.specs.OrderLaws.{key_total}
use Rattle.mq_ir.specs.Keys.{Tuple, each_first, is_among, is_same}
use Rattle.mq_ir.specs.Partitions.{ascending, partition_keys, placed}
use Rattle.mq_ir.specs.RowLaws.{PartitionsAscend, RowsHaveOnePartition, times}
use Rattle.mq_ir.proofs.KeyLemmas.{among_alike, among_some, once_if, same_itself, times_ascending, times_first, times_more}

-- x comes before each of these
abbrev Below : Tuple → List Tuple → Type 0
Below x = AllByRecursion (λ y. cmp_key x y ≡ Less)

below_through : (x y : Tuple) (zs : List Tuple) → cmp_key x y ≡ Less → Below y zs → Below x zs
below_through x y [] h b = tt
below_through x y (z ∷ zs) h b = (key_total.trans x y z h b.0, below_through x y zs h b.1)

below_placed : (y x : Tuple) (zs : List Tuple) → cmp_key y x ≡ Less → Below y zs → Below y (placed cmp_key x zs)
below_placed y x [] h b = (h, tt)
below_placed y x (z ∷ zs) h b = by (is_gt (cmp_key x z)) (below_placed y x zs h b.1)
  where
    by : (g : Bool) → Below y (placed cmp_key x zs) → Below y (if g then z ∷ placed cmp_key x zs else x ∷ z ∷ zs)
    by true r = (b.0, r)
    by false r = (h, b)

-- a key that does not stand in a strictly ascending list is placed in it
strict_placed : (x : Tuple) (ys : List Tuple) → is_among ys x ≡ false → IsStrictlySortedBy cmp_key ys → IsStrictlySortedBy cmp_key (placed cmp_key x ys)
unfolding IsStrictlySortedBy
strict_placed x [] h s = (tt, tt)
strict_placed x (y ∷ ys) h s = by (cmp_key x y) refl (strict_placed x ys)
  where
    by : (o : Ordering) → cmp_key x y ≡ o → (is_among ys x ≡ false → IsStrictlySortedBy cmp_key ys → IsStrictlySortedBy cmp_key (placed cmp_key x ys)) →
        IsStrictlySortedBy cmp_key (if is_gt o then y ∷ placed cmp_key x ys else x ∷ y ∷ ys)
    by Less e r = ((e, below_through x y ys e s.0), s)
    by Equal e r = let g : true ≡ false = sym (ap (λ o. is_eq o || is_among ys x) e) ∙ h in cc
    by Greater e r =
        let g : is_among ys x ≡ false = sym (ap (λ o. is_eq o || is_among ys x) e) ∙ h in
        (below_placed y x ys (key_total.antisymm y x ∙ ap ordering_reverse e) s.0, r g s.1)

-- no key stands in the rest behind it
abbrev Distinct : List Tuple → Type 0
Distinct [] = Unit {0}
Distinct (x ∷ xs) = (is_among xs x ≡ false) × Distinct xs

strict_ascending : (xs : List Tuple) → Distinct xs → IsStrictlySortedBy cmp_key (ascending cmp_key xs)
unfolding IsStrictlySortedBy
strict_ascending [] d = tt
strict_ascending (x ∷ xs) d =
    strict_placed x (ascending cmp_key xs) (among_alike x (ascending cmp_key xs) xs (times_ascending cmp_key x xs) ∙ d.0) (strict_ascending xs d.1)

not_among : (q : Tuple) (xs : List Tuple) → times q xs ≡ 0 → is_among xs q ≡ false
not_among q xs h = by (is_among xs q) refl
  where
    by : (b : Bool) → is_among xs q ≡ b → b ≡ false
    by true e = absurd (omega (arith, h, among_some q xs e))
    by false e = refl

-- lists in which each key stands at most once are distinct
distinct_by_times : (xs : List Tuple) → ((q : Tuple) → times q xs ≤ 1) → Distinct xs
distinct_by_times [] h = tt
distinct_by_times (x ∷ xs) h = (not_among x xs (omega (arith, h x, o, times_more x x xs)), distinct_by_times xs rest)
  where
    o : once_if (is_same x x) ≡ 1
    o = ap once_if (same_itself x)

    rest : (q : Tuple) → times q xs ≤ 1
    rest q = omega (arith, h q, times_more q x xs)

at_most_one : (b : Bool) → once_if b ≤ 1
at_most_one true = omega arith
at_most_one false = omega arith

first_distinct : (xs : List Tuple) → Distinct (each_first xs)
first_distinct xs = distinct_by_times (each_first xs) (λ q. omega (arith, times_first q xs, at_most_one (is_among xs q)))

pub partitions_ascend : (parts : ℕ) (items : List Tuple) → PartitionsAscend parts items
unfolding IsStrictlySortedBy
partitions_ascend parts items = by (parts == 0)
  where
    by : (b : Bool) → IsStrictlySortedBy cmp_key (if b then [] ∷ [] else ascending cmp_key (each_first (map (take parts) items)))
    by true = (tt, tt)
    by false = strict_ascending (each_first (map (take parts) items)) (first_distinct (map (take parts) items))

all_map : {A : Type 0} {P Q : A → Type 0} → ((x : A) → P x → Q x) → (xs : List A) → AllByRecursion P xs → AllByRecursion Q xs
all_map f [] all = tt
all_map f (x ∷ xs) all = (f x all.0, all_map f xs all.1)

-- each item has its key among those of all
each_in : (f : Tuple → Tuple) (items : List Tuple) → AllByRecursion (λ row. is_among (map f items) (f row) ≡ true) items
each_in f [] = tt
each_in f (x ∷ xs) = (ap (λ b. b || is_among (map f xs) (f x)) (same_itself (f x)), all_map more xs (each_in f xs))
  where
    more : (row : Tuple) → is_among (map f xs) (f row) ≡ true → is_among (map f (x ∷ xs)) (f row) ≡ true
    more row e = by (is_same (f row) (f x))
      where
        by : (b : Bool) → b || is_among (map f xs) (f row) ≡ true
        by true = refl
        by false = e

pub rows_have_one_partition : (parts : ℕ) (items : List Tuple) → RowsHaveOnePartition parts items
rows_have_one_partition parts items = all_map once items (each_in (take parts) items)
  where
    keys : List Tuple
    keys = map (take parts) items

    once : (row : Tuple) → is_among keys (take parts row) ≡ true → times (take parts row) (partition_keys parts items) ≡ 1
    once row e = by (parts == 0) refl
      where
        by : (b : Bool) → parts == 0 ≡ b → times (take parts row) (if b then [] ∷ [] else ascending cmp_key (each_first keys)) ≡ 1
        by true h = let z : parts ≡ 0 = (unsigned_Decides parts 0).0 h in ap (λ n. times (take n row) ([] ∷ [])) z
        by false h = times_ascending cmp_key (take parts row) (each_first keys) ∙ times_first (take parts row) keys ∙ ap once_if e
