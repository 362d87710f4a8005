-- Where the cell at a tuple stands, by a binary search.
use Rattle.std.proofs.Common.{◌≡◌, ℕ, zero, suc, ◌+◌, ◌<◌, ◌≤◌, true, false, ◌||◌, cond, [], ◌∷◌, take, drop, length, get_or, Result, Ok, Err, Ordering, Less, Equal, Greater, refl, sym, ap, subst, ◌∙◌, add-one, arith}
use Rattle.std.specs.Prelude.{nat_lt}
use Rattle.std.specs.List.{AllByRecursion}
use Rattle.std.specs.List.Sorted.{IsBinarySearchResult, IsSearchInRange, IsSortedBy, IsStrictlySortedBy}
use Rattle.std.specs.Ordering.{is_eq, is_gt, is_lt}
use Rattle.std.proofs.lemmas.Bool.Decides.{nat_tests}
use Rattle.std.proofs.lemmas.List.Sorted.{searchable_from_sorted}
use Rattle.std.proofs.lemmas.Map.Keys.{Less-from_sorted}
use Rattle.mq_ir.specs.Partitions.{Cells}
use Rattle.mq_ir.specs.Keys.{Tuple}
use Rattle.mq_values.specs.Order.{cmp_key}
use Rattle.mq_values.specs.OrderLaws.{key_total}
use Rattle.mq_values.specs.OrderTells.{same_key}
use Rattle.mq_delta_parts.specs.Edits.{Ascends, above, below, by_tuple, has_cell}
use Rattle.mq_delta_parts.specs.Spans.{IsSpan}
use Rattle.mq_delta_parts.proofs.EditLemmas.{not_less, turned}

module _ (t : Tuple) where
  abbrev AllGreater : Cells → Type 0
  AllGreater cells = AllByRecursion (λ cell. cmp_key t cell.0 ≡ Less) cells

  -- a cell in front: it is below, at or above the tuple
  front_below : (cell : Tuple × Tuple) (cells : Cells) (r : Ordering) → cmp_key cell.0 t ≡ r → below t (cell ∷ cells) ≡ cond (is_lt r) (cell ∷ below t cells) (below t cells)
  front_below cell cells r e = ap (λ o. cond (is_lt o) (cell ∷ below t cells) (below t cells)) e

  front_above : (cell : Tuple × Tuple) (cells : Cells) (r : Ordering) → cmp_key cell.0 t ≡ r → above t (cell ∷ cells) ≡ cond (is_gt r) (cell ∷ above t cells) (above t cells)
  front_above cell cells r e = ap (λ o. cond (is_gt o) (cell ∷ above t cells) (above t cells)) e

  front_cell : (cell : Tuple × Tuple) (cells : Cells) (r : Ordering) → cmp_key t cell.0 ≡ r → has_cell (cell ∷ cells) t ≡ (is_eq r || has_cell cells t)
  front_cell cell cells r e = ap (λ o. is_eq o || has_cell cells t) e

  -- cells that are all above it
  high_below : (cells : Cells) → AllGreater cells → below t cells ≡ []
  high_below [] h = refl
  high_below (cell ∷ cells) h = front_below cell cells Greater (turned t cell.0 Less h.0) ∙ high_below cells h.1

  high_above : (cells : Cells) → AllGreater cells → above t cells ≡ cells
  high_above [] h = refl
  high_above (cell ∷ cells) h = front_above cell cells Greater (turned t cell.0 Less h.0) ∙ ap (λ l. cell ∷ l) (high_above cells h.1)

  high_cell : (cells : Cells) → AllGreater cells → has_cell cells t ≡ false
  high_cell [] h = refl
  high_cell (cell ∷ cells) h = front_cell cell cells Less h.0 ∙ high_cell cells h.1

  -- the cell of this number is that at the tuple
  pub record Found (cells : Cells) (at : ℕ) : Type 0 where
    pub front : take at cells ≡ below t cells
    pub rest : drop (suc at) cells ≡ above t cells
    pub there : has_cell cells t ≡ true

  found : (cells : Cells) (at : ℕ) (d : Tuple × Tuple) → Ascends cells → at < length cells → cmp_key (get_or cells at d).0 t ≡ Equal → Found cells at
  unfolding IsStrictlySortedBy
  found [] at d s l e = absurd (omega arith)
  found (cell ∷ cells) zero d s l e =
      let same : cell.0 ≡ t = same_key cell.0 t e in
      let high : AllGreater cells = subst (λ u. AllByRecursion (λ (other : Tuple × Tuple). cmp_key u other.0 ≡ Less) cells) same s.0 in
      record {
        front = sym (front_below cell cells Equal e ∙ high_below cells high);
        rest = sym (front_above cell cells Equal e ∙ high_above cells high);
        there = front_cell cell cells Equal (turned cell.0 t Equal e);
      }
  found (cell ∷ cells) (suc at) d s l e =
      let r = found cells at d s.1 (omega arith) e in
      let less : cmp_key cell.0 t ≡ Less =
      sym (ap (cmp_key cell.0) (same_key (get_or cells at d).0 t e)) ∙ Less-from_sorted by_tuple (cell ∷ cells) 0 (suc at) d s (omega arith) l in
      record {
        front = ap (λ l. cell ∷ l) r.front ∙ sym (front_below cell cells Less less);
        rest = r.rest ∙ sym (front_above cell cells Less less);
        there = front_cell cell cells Greater (turned cell.0 t Less less) ∙ r.there;
      }

  -- no cell stands at the tuple, which would have this number
  pub record Missed (cells : Cells) (at : ℕ) : Type 0 where
    pub front : take at cells ≡ below t cells
    pub rest : drop at cells ≡ above t cells
    pub lacking : has_cell cells t ≡ false

  all_high : (cells : Cells) → ((k : ℕ) (d : Tuple × Tuple) → k < length cells → cmp_key (get_or cells k d).0 t ≡ Greater) → AllGreater cells
  all_high [] h = tt
  all_high (cell ∷ cells) h = (turned cell.0 t Greater (h 0 cell (omega arith)), all_high cells (λ k d l. h (suc k) d (omega arith)))

  missed : (cells : Cells) (at : ℕ) → ((k : ℕ) (d : Tuple × Tuple) → k < at → k < length cells → cmp_key (get_or cells k d).0 t ≡ Less)
      → ((k : ℕ) (d : Tuple × Tuple) → at ≤ k → k < length cells → cmp_key (get_or cells k d).0 t ≡ Greater) → Missed cells at
  missed [] zero low high = record { front = refl; rest = refl; lacking = refl }
  missed [] (suc at) low high = record { front = refl; rest = refl; lacking = refl }
  missed (cell ∷ cells) zero low high =
      let all : AllGreater (cell ∷ cells) = all_high (cell ∷ cells) (λ k d l. high k d (omega arith) l) in
      record { front = sym (high_below (cell ∷ cells) all); rest = sym (high_above (cell ∷ cells) all); lacking = high_cell (cell ∷ cells) all }
  missed (cell ∷ cells) (suc at) low high =
      let r = missed cells at (λ k d l m. low (suc k) d (omega arith) (omega arith)) (λ k d l m. high (suc k) d (omega arith) (omega arith)) in
      let less : cmp_key cell.0 t ≡ Less = low 0 cell (omega arith) (omega arith) in
      record {
        front = ap (λ l. cell ∷ l) r.front ∙ sym (front_below cell cells Less less);
        rest = r.rest ∙ sym (front_above cell cells Less less);
        lacking = front_cell cell cells Greater (turned cell.0 t Less less) ∙ r.lacking;
      }

  in_order : (cells : Cells) → Ascends cells → IsSortedBy (λ (a b : Tuple × Tuple). is_lt (cmp_key a.0 b.0)) cells
  in_order cells s k d low l = not_less (get_or cells k d).0 (get_or cells (k + 1) d).0 (Less-from_sorted by_tuple cells k (k + 1) d s (omega arith) l)

  -- what the search answers
  module _ (cells : Cells) (s : Ascends cells) where
    place_found : (at : ℕ) → at < length cells → IsBinarySearchResult (λ (cell : Tuple × Tuple). cmp_key cell.0 t) cells (Ok at) → IsSpan cells t at (at + 1)
    place_found at l told =
        let d : Tuple × Tuple = ([], []) in
        let r = found cells at d s l (told d) in
        let less : nat_lt at (at + 1) ≡ true = grind (arith, nat_tests) in
        record { front = r.front; rest = ap (λ n. drop n cells) (add-one at) ∙ r.rest; there = less ∙ sym r.there }

    place_missed : (at : ℕ) → IsBinarySearchResult (λ (cell : Tuple × Tuple). cmp_key cell.0 t) cells (Err at) → IsSpan cells t at at
    place_missed at told =
        let parted = told (searchable_from_sorted key_total (λ (cell : Tuple × Tuple). cell.0) cells t (in_order cells s)) in
        let r = missed cells at (λ k d l m. parted.0 k d (omega arith) l) (λ k d l m. parted.1 k d l m) in
        let not : nat_lt at at ≡ false = grind (arith, nat_tests) in
        record { front = r.front; rest = r.rest; there = not ∙ sym r.lacking }

    module _ (r : Result ℕ ℕ) (at : ℕ) where
      pub found_span : r ≡ Ok at → IsSearchInRange r (length cells) → IsBinarySearchResult (λ (cell : Tuple × Tuple). cmp_key cell.0 t) cells r → IsSpan cells t at (at + 1)
      found_span is bound told =
          place_found at (subst (λ q. IsSearchInRange q (length cells)) is bound) (subst (λ q. IsBinarySearchResult (λ (cell : Tuple × Tuple). cmp_key cell.0 t) cells q) is told)

      pub missed_span : r ≡ Err at → IsBinarySearchResult (λ (cell : Tuple × Tuple). cmp_key cell.0 t) cells r → IsSpan cells t at at
      missed_span is told = place_missed at (subst (λ q. IsBinarySearchResult (λ (cell : Tuple × Tuple). cmp_key cell.0 t) cells q) is told)
