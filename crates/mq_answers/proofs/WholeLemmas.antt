-- Rows that are printed from the first column to the last.
use Rattle.std.proofs.Common.{◌≡◌, ℕ, List, [], ◌∷◌, Bool, true, false, length, map, refl, sym, ap, ◌∙◌, subst}
use Rattle.std.specs.Prelude.{if◌then◌else◌, slice_index_or}
use Rattle.std.specs.List.{All, range_with_len}
use Rattle.std.specs.Ordering.{is_gt}
use Rattle.std.specs.declared.cmp.Ordering.{Ordering}
use Rattle.std.proofs.lemmas.List.Elements.{All-cons, All-head, All-tail}
use Rattle.std.proofs.lemmas.List.FromFn.{fill_by_all}
use Rattle.mq_values.specs.declared.value.Value.TheVariants.{Null}
use Rattle.mq_ir.specs.declared.query.BoundQuery.{BoundQuery}
use Rattle.mq_ir.specs.Partitions.{Tuple, ascending, placed}
use Rattle.mq_ir.specs.Printing.{cmp_printed, columns_at, printed_rows}
use Rattle.mq_ir.specs.Ready.{HaveLength}
use Rattle.mq_answers.specs.Printing.{cmp_rows}

in_place : (n : ℕ) (row : Tuple) → length row ≡ n → columns_at (range_with_len 0 n) row ≡ row
in_place n row h = sym (fill_by_all (λ (k : ℕ). slice_index_or row k Null) row n Null h (λ k l. refl))

whole_rows : (n : ℕ) (rows : List Tuple) → HaveLength n rows → map (columns_at (range_with_len 0 n)) rows ≡ rows
whole_rows n [] h = refl
whole_rows n (row ∷ rows) h =
    let first = in_place n row (All-head (λ (row : Tuple). length row ≡ n) row rows h) in
    let rest = whole_rows n rows (All-tail (λ (row : Tuple). length row ≡ n) row rows h) in
    λ i. first i ∷ rest i

module _ {K : Type 0} (P : K → Type 0) (R : K → K → Ordering) where
  placed_all : (x : K) (ys : List K) → P x → All P ys → All P (placed R x ys)
  placed_all x [] p h = All-cons P x [] p h
  placed_all x (y ∷ ys) p h = by (is_gt (R x y)) (placed_all x ys p (All-tail P y ys h))
    where
      by : (g : Bool) → All P (placed R x ys) → All P (if g then y ∷ placed R x ys else x ∷ y ∷ ys)
      by true k = All-cons P y (placed R x ys) (All-head P y ys h) k
      by false k = All-cons P x (y ∷ ys) p h

  ascending_all : (xs : List K) → All P xs → All P (ascending R xs)
  ascending_all [] h = h
  ascending_all (x ∷ xs) h = placed_all x (ascending R xs) (All-head P x xs h) (ascending_all xs (All-tail P x xs h))

pub all_shown : (q : BoundQuery) (print : List ℕ) (lent rows sorted : List Tuple) → print ≡ q.print → lent ≡ rows
    → print ≡ range_with_len 0 (length print) → HaveLength (length print) lent
    → sorted ≡ ascending (cmp_rows {R = Tuple} (λ row. row) q) rows → sorted ≡ printed_rows q rows
all_shown q print lent rows sorted same e all h f =
    let n = length print in
    let order = cmp_printed q in
    f
    ∙ sym (whole_rows n (ascending order rows) (ascending_all (λ (row : Tuple). length row ≡ n) order rows (subst (HaveLength n) e h)))
    ∙ ap (λ (print : List ℕ). map (columns_at print) (ascending order rows)) (sym all ∙ same)
