-- Cells in order, and what a search among them finds.
use Rattle.std.proofs.Common.{◌≡◌, ℕ, zero, suc, ◌<◌, [], ◌∷◌, true, false, length, get_or, Some, None, Result, Ok, Err, Ordering, Less, Equal, Greater, refl, sym, subst, ap, ◌∙◌, arith}
use Rattle.std.specs.BTreeMap.{is_at}
use Rattle.std.specs.List.Sorted.{IsBinarySearchResult, IsStrictlySortedBy}
use Rattle.std.specs.Ordering.{is_eq, on}
use Rattle.std.proofs.lemmas.Map.Entries.{lookup_head, lookup_tail}
use Rattle.std.proofs.lemmas.Map.Keys.{Less-from_sorted}
use Rattle.mq_values.specs.Order.{cmp_key}
use Rattle.mq_values.specs.OrderTells.{same_key}
use Rattle.mq_ir.specs.Keys.{Tuple, is_same}
use Rattle.mq_ir.specs.Partitions.{Cells, cell_at}
use Rattle.mq_cells.specs.Ascents.{CellsAscend}
use Rattle.mq_cells.specs.AscentLaws.{at_no_place, turned}

pub is_equal : (r : Ordering) → is_eq r ≡ true → r ≡ Equal
is_equal Less h = cc
is_equal Equal h = refl
is_equal Greater h = cc

module _ (key : Tuple) where
  no_cell : (cells : Cells) → ((k : ℕ) (d : Tuple × Tuple) → k < length cells → is_same key (get_or cells k d).0 ≡ false) → cell_at cells key ≡ None
  no_cell [] h = refl
  no_cell (e ∷ es) h = lookup_tail (is_at (cmp_key key)) e es (h 0 e (omega arith)) ∙ no_cell es (λ k d l. h (suc k) d (omega arith))

  pub missed_cell : (cells : Cells) (r : Result ℕ ℕ) (at : ℕ) → CellsAscend cells → IsBinarySearchResult (λ (cell : Tuple × Tuple). cmp_key cell.0 key) cells r → r ≡ Err at → None ≡ cell_at cells key
  missed_cell cells (Ok place) at s told is = cc
  missed_cell cells (Err place) at s told is = sym (no_cell cells (at_no_place (λ (cell : Tuple × Tuple). cell.0) cells key s place told))

  pub first_cell : (cells : Cells) (at : ℕ) (d : Tuple × Tuple) → CellsAscend cells → at < length cells → cmp_key (get_or cells at d).0 key ≡ Equal → cell_at cells key ≡ Some (get_or cells at d).1
  unfolding IsStrictlySortedBy
  first_cell [] at d s l h = absurd (omega arith)
  first_cell (e ∷ es) zero d s l h = lookup_head (is_at (cmp_key key)) e es (ap is_eq (turned e.0 key Equal h))
  first_cell (e ∷ es) (suc at) d s l h =
      let less : cmp_key e.0 key ≡ Less = sym (ap (cmp_key e.0) (same_key (get_or es at d).0 key h)) ∙ Less-from_sorted (on (λ (cell : Tuple × Tuple). cell.0) cmp_key) (e ∷ es) 0 (suc at) d s (omega arith) l in
      lookup_tail (is_at (cmp_key key)) e es (ap is_eq (turned e.0 key Less less)) ∙ first_cell es at d s.1 (omega arith) h

  abbrev place_in : Result ℕ ℕ → ℕ
  place_in (Ok n) = n
  place_in (Err n) = n

  pub found_cell : (cells : Cells) (r : Result ℕ ℕ) (at : ℕ) (d : Tuple × Tuple) → CellsAscend cells → at < length cells → IsBinarySearchResult (λ (cell : Tuple × Tuple). cmp_key cell.0 key) cells r → r ≡ Ok at → Some (get_or cells at d).1 ≡ cell_at cells key
  found_cell cells (Ok place) at d s l told is = sym (first_cell cells at d s l (subst (λ (n : ℕ). cmp_key (get_or cells n d).0 key ≡ Equal) (ap place_in is) (told d)))
  found_cell cells (Err place) at d s l told is = cc
