-- The order of targets, and keys sorted by it.
use Rattle.std.proofs.Common.{◌≡◌, ℕ, List, [], ◌∷◌, Bool, true, false, Ordering, Less, Equal, Greater, refl, sym, ap, ◌∙◌}
use Rattle.std.specs.Prelude.{slice_index_or}
use Rattle.std.specs.Cmp.{IsTotalOrder, back_total, on_total, then_total, tied_itself, both_ways}
use Rattle.std.specs.Cmp.Lexicographic.{lists_ties, pointwise}
use Rattle.std.specs.List.{dedup}
use Rattle.std.specs.List.Sorted.{IsPermutation, IsSorted, IsStrictlySortedBy}
use Rattle.std.specs.Ordering.{eq_by_cmp, is_eq, ordering_then}
use Rattle.std.proofs.lemmas.List.Kept.{IsStrictlySortedBy-dedup}
use Rattle.std.proofs.lemmas.List.Sorted.{list_any-IsPermutation}
use Rattle.mq_values.specs.Order.{cmp_key, cmp_value}
use Rattle.mq_values.specs.OrderLaws.{key_total, value_total, values_tie}
use Rattle.mq_values.specs.OrderTells.{key_itself, same_key}
use Rattle.mq_values.specs.contracts.value.ValuePartialEq.TheImpl.{ghosts as same}
use Rattle.mq_values.specs.declared.value.Value.TheVariants.{Null}
use Rattle.mq_ir.specs.Keys.{Tuple, each_first, is_same}
use Rattle.mq_ir.specs.Partitions.{ascending}
use Rattle.mq_ir.specs.Printing.{cmp_column, cmp_columns}
use Rattle.mq_targets.specs.Choice.{cmp_by}
use Rattle.mq_targets.proofs.AmongLemmas.{among_ascending, among_dedup, among_first, ascending_itself, distinct_first, first_itself, one_list, strict_ascending}

column_total : (c : ℕ × Bool) → IsTotalOrder (cmp_column c)
column_total (n, true) = back_total (on_total (λ (row : Tuple). slice_index_or row n Null) value_total)
column_total (n, false) = on_total (λ (row : Tuple). slice_index_or row n Null) value_total

columns_total : (order : List (ℕ × Bool)) → IsTotalOrder (cmp_columns order)
columns_total [] = record { antisymm = λ a b. refl; trans = λ a b c h k. h; congr = λ a b c h. refl }
columns_total (c ∷ order) = then_total (column_total c) (columns_total order)

pub by_total : (order : List (ℕ × Bool)) → IsTotalOrder (cmp_by order)
by_total order = then_total (columns_total order) key_total

second_equal : (r s : Ordering) → ordering_then r s ≡ Equal → s ≡ Equal
second_equal Less s h = cc
second_equal Equal s h = h
second_equal Greater s h = cc

pub by_apart : (order : List (ℕ × Bool)) (a b : Tuple) → cmp_by order a b ≡ Equal → a ≡ b
by_apart order a b h = same_key a b (second_equal (cmp_columns order a b) (cmp_key a b) h)

equal_is : (r : Ordering) → is_eq r ≡ true → r ≡ Equal
equal_is Less h = cc
equal_is Equal h = refl
equal_is Greater h = cc

-- equality of keys is what the order finds equal
ties : (order : List (ℕ × Bool)) (a b : Tuple) → pointwise same.eq a b ≡ eq_by_cmp (cmp_by order) a b
ties order a b = lists_ties cmp_value values_tie a b ∙ both_ways (is_eq (cmp_key a b)) (is_eq (cmp_by order a b)) over back
  where
    over : is_eq (cmp_key a b) ≡ true → is_eq (cmp_by order a b) ≡ true
    over h = let e = same_key a b (equal_is (cmp_key a b) h) in ap is_eq (sym (ap (cmp_by order a) e) ∙ tied_itself (by_total order) a)

    back : is_eq (cmp_by order a b) ≡ true → is_eq (cmp_key a b) ≡ true
    back h = let e = by_apart order a b (equal_is (cmp_by order a b) h) in ap is_eq (sym (ap (cmp_key a) e) ∙ key_itself a)

alike_is : (a b : Tuple) → pointwise same.eq a b ≡ true → a ≡ b
alike_is a b h = same_key a b (equal_is (cmp_key a b) (sym (lists_ties cmp_value values_tie a b) ∙ h))

-- what a sort and dedup leave of some keys
pub sorted_once : (order : List (ℕ × Bool)) (xs ys zs : List Tuple) → IsPermutation xs ys → IsSorted (cmp_by order) ys → zs ≡ dedup (pointwise same.eq) ys → zs ≡ ascending (cmp_by order) (each_first xs)
sorted_once order xs ys zs p s e =
    e
    ∙ one_list (by_total order) (by_apart order) (dedup (pointwise same.eq) ys) (ascending (cmp_by order) (each_first xs))
    (IsStrictlySortedBy-dedup (by_total order) (ties order) ys s)
    (strict_ascending (by_total order) (by_apart order) (each_first xs) (distinct_first xs))
    (λ q. among_dedup (pointwise same.eq) alike_is q ys ∙ sym (list_any-IsPermutation (is_same q) xs ys p) ∙ sym (among_first q xs) ∙ sym (among_ascending (cmp_by order) q (each_first xs)))

-- ascending keys that are each there once
pub each_once : (xs : List Tuple) → IsStrictlySortedBy cmp_key xs → each_first xs ≡ xs
each_once = first_itself key_total same_key

pub already_ascending : (xs : List Tuple) → IsStrictlySortedBy cmp_key xs → ascending (cmp_by []) xs ≡ xs
already_ascending xs s = ascending_itself (by_total []) (by_apart []) xs s
