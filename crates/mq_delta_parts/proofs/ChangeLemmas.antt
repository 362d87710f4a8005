-- The cells of rows after a change.
use Rattle.std.proofs.Common.{◌≡◌, ◌≤◌, Bool, true, false, cond, List, [], ◌∷◌, ◌++◌, length, map, Some, None, refl, sym, ap, subst, ◌∙◌}
use Rattle.std.specs.Cmp.{IsTotalOrder, on_total}
use Rattle.std.specs.List.{filter}
use Rattle.mq_ir.specs.Partitions.{Cells, cells_of, repeated}
use Rattle.mq_ir.specs.Keys.{Tuple, is_same}
use Rattle.mq_values.specs.OrderLaws.{key_total}
use Rattle.mq_ir.specs.Rising.{Rising}
use Rattle.mq_ir.specs.SortLaws.{one_rising, rising_ascending, tied_ascending}
use Rattle.mq_delta_parts.specs.ChangeLaws.{woven_kept}
use Rattle.mq_delta_parts.specs.Edits.{Ascends, Edit, amended, by_tuple, coming, edits_of, going}
use Rattle.mq_delta_parts.specs.Woven.{IsChangeOf}
use Rattle.mq_delta_parts.proofs.ListLemmas.{kept_mapped}
use Rattle.mq_delta_parts.proofs.WovenLemmas.{changed_one, left, left_mapped}
use Rattle.mq_delta_parts.proofs.EditLemmas.{amended_ascends, amended_at, ascends_rising, at, comes, goes, once_at, rising_ascends}
use Rattle.mq_delta_parts.proofs.RepeatLemmas.{as_many, each_once, none_repeated}

-- ---- what went and what came, of all edits and of those of a tuple
pub goes_kept : (q : Tuple) (edits : List Edit) → filter (is_same q) (goes edits) ≡ goes (at q edits)
goes_kept q [] = refl
goes_kept q ((t, None) ∷ edits) = by (is_same q t) (goes_kept q edits)
  where
    by : (b : Bool) → filter (is_same q) (goes edits) ≡ goes (at q edits) → cond b (t ∷ filter (is_same q) (goes edits)) (filter (is_same q) (goes edits)) ≡ goes (cond b ((t, None) ∷ at q edits) (at q edits))
    by true h = ap (λ l. t ∷ l) h
    by false h = h
goes_kept q ((t, Some m) ∷ edits) = by (is_same q t) (goes_kept q edits)
  where
    by : (b : Bool) → filter (is_same q) (goes edits) ≡ goes (at q edits) → filter (is_same q) (goes edits) ≡ goes (cond b ((t, Some m) ∷ at q edits) (at q edits))
    by true h = h
    by false h = h

comes_kept : (q : Tuple) (edits : List Edit) → at q (comes edits) ≡ comes (at q edits)
comes_kept q [] = refl
comes_kept q ((t, None) ∷ edits) = by (is_same q t) (comes_kept q edits)
  where
    by : (b : Bool) → at q (comes edits) ≡ comes (at q edits) → at q (comes edits) ≡ comes (cond b ((t, None) ∷ at q edits) (at q edits))
    by true h = h
    by false h = h
comes_kept q ((t, Some m) ∷ edits) = by (is_same q t) (comes_kept q edits)
  where
    by : (b : Bool) → at q (comes edits) ≡ comes (at q edits) → cond b ((t, m) ∷ at q (comes edits)) (at q (comes edits)) ≡ comes (cond b ((t, Some m) ∷ at q edits) (at q edits))
    by true h = ap (λ l. (t, m) ∷ l) h
    by false h = h

pub goes_of : (gone come : List (Tuple × Tuple)) → goes (map going gone ++ map coming come) ≡ map (λ row. row.0) gone
goes_of [] [] = refl
goes_of [] (row ∷ come) = goes_of [] come
goes_of (row ∷ gone) come = ap (λ l. row.0 ∷ l) (goes_of gone come)

comes_of : (gone come : List (Tuple × Tuple)) → comes (map going gone ++ map coming come) ≡ come
comes_of [] [] = refl
comes_of [] (row ∷ come) = ap (λ l. row ∷ l) (comes_of [] come)
comes_of (row ∷ gone) come = comes_of gone come

module _ (gone come : List (Tuple × Tuple)) (q : Tuple) where
  pub edits_at : at q (edits_of gone come) ≡ at q (map going gone ++ map coming come)
  edits_at = tied_ascending (on_total (λ (edit : Edit). edit.0) key_total) (q, None) (map going gone ++ map coming come)

  went_at : filter (is_same q) (goes (edits_of gone come)) ≡ map (λ row. row.0) (at q gone)
  went_at =
      goes_kept q (edits_of gone come)
      ∙ ap goes edits_at
      ∙ sym (goes_kept q (map going gone ++ map coming come))
      ∙ ap (filter (is_same q)) (goes_of gone come)
      ∙ kept_mapped (λ row. row.0) (is_same q) gone

  came_at : at q (comes (edits_of gone come)) ≡ at q come
  came_at =
      comes_kept q (edits_of gone come)
      ∙ ap comes edits_at
      ∙ sym (comes_kept q (map going gone ++ map coming come))
      ∙ ap (at q) (comes_of gone come)

-- ---- the cells of rows, and the amended cells
total : IsTotalOrder (by_tuple {A = Tuple})
total = on_total (λ (row : Tuple × Tuple). row.0) key_total

cells_at : (rows : List (Tuple × Tuple)) (q : Tuple) → at q (cells_of rows) ≡ at q rows
cells_at rows q = tied_ascending total (q, []) rows

pub edits_rise : (gone come : List (Tuple × Tuple)) → Rising by_tuple (edits_of gone come)
edits_rise gone come = rising_ascending (on_total (λ (edit : Edit). edit.0) key_total) (map going gone ++ map coming come)

-- what the edits leave of the cells of a tuple, and what they bring, by the rows
pub leaves : (old gone come : List (Tuple × Tuple)) (q : Tuple)
    → left (filter (is_same q) (goes (edits_of gone come))) (at q (cells_of old)) ++ at q (comes (edits_of gone come)) ≡ left (at q gone) (at q old) ++ at q come
leaves old gone come q =
    (λ i. left (went_at gone come q i) (cells_at old q i) ++ came_at gone come q i)
    ∙ ap (λ l. l ++ at q come) (left_mapped (λ (row : Tuple × Tuple). row.0) (at q gone) (at q old))

module _ (old gone come new : List (Tuple × Tuple)) (once : repeated (map (λ row. row.0) old) ≡ None) where
  old_once : (q : Tuple) → length (at q old) ≤ 1
  old_once q = subst (λ n. n ≤ 1) (as_many q old) (each_once (map (λ row. row.0) old) once q)

  pub old_ascends : Ascends (cells_of old)
  old_ascends = rising_ascends (cells_of old) (rising_ascending total old) (λ q. subst (λ (l : Cells). length l ≤ 1) (sym (cells_at old q)) (old_once q))

  module _ (cells : Cells) (change : IsChangeOf old gone come new) (is : amended (cells_of old) (edits_of gone come) ≡ Some cells) where
    ascends : Ascends cells
    ascends = amended_ascends (edits_of gone come) (cells_of old) cells (edits_rise gone come) old_ascends is

    stands : (q : Tuple) → at q cells ≡ left (at q gone) (at q old) ++ at q come
    stands q = amended_at q (edits_of gone come) (cells_of old) cells (edits_rise gone come) is ∙ leaves old gone come q

    new_at : (q : Tuple) → at q new ≡ at q cells
    new_at q =
        changed_one (woven_kept (λ row. is_same q row.0) change.before) (woven_kept (λ row. is_same q row.0) change.after) (old_once q)
        (subst (λ (l : Cells). length l ≤ 1) (stands q) (once_at q cells ascends))
        ∙ sym (stands q)

    pub cells_after : cells ≡ cells_of new
    cells_after = one_rising total cells (cells_of new) (ascends_rising cells ascends) (rising_ascending total new) (λ q. sym (new_at q.0) ∙ sym (cells_at new q.0))

    pub once_after : repeated (map (λ row. row.0) new) ≡ None
    once_after =
        none_repeated (map (λ row. row.0) new)
        (λ q. subst (λ n. n ≤ 1) (ap length (sym (new_at q)) ∙ sym (as_many q new)) (once_at q cells ascends))
