-- The first of equal rows counts.
use Rattle.std.proofs.Common.{◌≡◌, List, [], ◌∷◌, Bool, true, false, cond, Option, Some, Ordering, Less, Equal, Greater, refl, sym, ap, ◌∙◌}
use Rattle.std.specs.Prelude.{if◌then◌else◌}
use Rattle.std.specs.BTreeMap.{is_at}
use Rattle.std.specs.Ordering.{is_eq, is_gt, on}
use Rattle.mq_values.specs.Order.{cmp_key}
use Rattle.mq_ir.specs.Keys.{Tuple}
use Rattle.mq_ir.specs.Partitions.{cell_at, cells_of, placed}
use Rattle.mq_ir.specs.RowLaws.{FirstRowCounts}
use Rattle.mq_ir.proofs.KeyLemmas.{same_is, same_itself}

abbrev by_key : Tuple × Tuple → Tuple × Tuple → Ordering
by_key = on (λ (row : Tuple × Tuple). row.0) cmp_key

-- two tuples that are both the key are not one behind the other
not_behind : (key a b : Tuple) → is_at (cmp_key key) a ≡ true → is_at (cmp_key key) b ≡ true → is_gt (cmp_key a b) ≡ true → ⊥
not_behind key a b h k g =
    let e : is_gt (cmp_key a b) ≡ is_gt (cmp_key key key) = λ i. is_gt (cmp_key (sym (same_is key a h) i) (sym (same_is key b k) i)) in
    greater_is (cmp_key key key) (same_itself key) (sym e ∙ g)
  where
    greater_is : (r : Ordering) → is_eq r ≡ true → is_gt r ≡ true → ⊥
    greater_is Less h g = cc
    greater_is Equal h g = cc
    greater_is Greater h g = cc

swap : (b c : Bool) (s t rest : Option Tuple) → (b ≡ true → c ≡ true → ⊥) → cond b s (cond c t rest) ≡ cond c t (cond b s rest)
swap true true s t rest h = absurd (h refl refl)
swap true false s t rest h = refl
swap false c s t rest h = refl

found_placed : (key : Tuple) (x : Tuple × Tuple) (ys : List (Tuple × Tuple)) → cell_at (placed by_key x ys) key ≡ cell_at (x ∷ ys) key
found_placed key x [] = refl
found_placed key x (y ∷ ys) = by (is_gt (cmp_key x.0 y.0)) refl (found_placed key x ys)
  where
    by : (g : Bool) → is_gt (cmp_key x.0 y.0) ≡ g → cell_at (placed by_key x ys) key ≡ cell_at (x ∷ ys) key →
        cell_at (if g then y ∷ placed by_key x ys else x ∷ y ∷ ys) key ≡ cell_at (x ∷ y ∷ ys) key
    by false g r = refl
    by true g r =
        ap (λ o. cond (is_at (cmp_key key) y.0) (Some y.1) o) r
        ∙ swap (is_at (cmp_key key) y.0) (is_at (cmp_key key) x.0) (Some y.1) (Some x.1) (cell_at ys key) (λ e f. not_behind key x.0 y.0 f e g)

pub first_row_counts : (rows : List (Tuple × Tuple)) (key : Tuple) → FirstRowCounts rows key
first_row_counts [] key = refl
first_row_counts (row ∷ rows) key =
    found_placed key row (cells_of rows) ∙ ap (λ o. cond (is_at (cmp_key key) row.0) (Some row.1) o) (first_row_counts rows key)
