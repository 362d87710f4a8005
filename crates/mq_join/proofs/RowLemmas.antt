-- Base rows with the places of their rows.
use Rattle.std.proofs.Common.{◌≡◌, ℕ, ◌+◌, ◌<◌, Bool, true, false, List, [], ◌∷◌, ◌++◌, map, length, take, get_or, Result, Ok, Err, Option, Some, None, refl, sym, ap, ◌∙◌, arith, if◌then◌else◌}
use Rattle.std.specs.Prelude.{nat_lt, slice_get, slice_index_or}
use Rattle.std.specs.List.{filter_map, zip}
use Rattle.std.specs.Option.{option_map, option_map_or, option_to_list}
use Rattle.std.proofs.lemmas.List.{get_or-map, length-map, map-append, take_more}
use Rattle.std.proofs.lemmas.Option.{get_or_from_slice_get, slice_get_within}
use Rattle.std.proofs.lemmas.Slice.Zip.{get_or-zip, length-zip}
use Rattle.mq_values.specs.Answers.{result_map}
use Rattle.mq_values.specs.declared.faults.FaultKind.{FaultKind}
use Rattle.mq_values.specs.declared.faults.FaultKind.TheVariants as kind
use Rattle.mq_values.specs.declared.limits.TheConstants.{MAX_BASE_ROWS}
use Rattle.mq_ir.specs.declared.expression.Expr.{Expr}
use Rattle.mq_ir.specs.declared.query.FromPart.{FromPart}
use Rattle.mq_ir.specs.Answer.{plain_fault}
use Rattle.mq_ir.specs.BaseRows.{Places, all_places, base_rows, conditions_of, items_of, kept_places, row_step, rows_at, with_row}
use Rattle.mq_ir.specs.Keys.{Tuple}
use Rattle.mq_ir.specs.Results.{◌>>=◌, each_in_turn, marked}
use Rattle.mq_ir.specs.Tables.{Table, Tables, rows_of, table_at}
use Rattle.mq_join.specs.Rows.{Joined, joined_at, part_at, rows_in, rows_over}
use Rattle.mq_join.specs.Walk.{counts_from, is_taken, joined_step, rows_behind, with_joined}
use Rattle.mq_join.proofs.WalkLemmas.{from_first}

abbrev rows_ok : List Joined → Result (List Joined) FaultKind
rows_ok rows = Ok rows

abbrev places_ok : List Places → Result (List Places) FaultKind
places_ok kept = Ok kept

module _ (from : FromPart) (items : List (List Tuple)) where
  abbrev with_places : List Places → List Joined
  with_places kept = map (joined_at items) kept

  -- one row more, of rows with their places
  room : (places : Places) (kept : List Places) (b : Bool) → b ≡ nat_lt (length kept) MAX_BASE_ROWS
      → (if b then rows_ok (with_places kept ++ joined_at items places ∷ []) else Err kind.TooManyRows)
      ≡ ((if b then places_ok (kept ++ places ∷ []) else Err kind.TooManyRows) >>= (λ more. Ok (with_places more)))
  room places kept true e = ap Ok (sym (map-append (joined_at items) kept (places ∷ [])))
  room places kept false e = refl

  one_more : (places : Places) (kept : List Places) → with_joined items places (with_places kept) ≡ (with_row places kept >>= (λ more. Ok (with_places more)))
  one_more places kept =
      ap (λ n. if nat_lt n MAX_BASE_ROWS then rows_ok (with_places kept ++ joined_at items places ∷ []) else Err kind.TooManyRows) (length-map kept (joined_at items))
      ∙ room places kept (nat_lt (length kept) MAX_BASE_ROWS) refl

  step_by : (places : Places) (kept : List Places) (taken : Result Bool FaultKind)
      → (taken >>= (λ taken. if taken then with_joined items places (with_places kept) else Ok (with_places kept)))
      ≡ ((taken >>= (λ taken. if taken then with_row places kept else Ok kept)) >>= (λ more. Ok (with_places more)))
  step_by places kept (Ok true) = one_more places kept
  step_by places kept (Ok false) = refl
  step_by places kept (Err fault) = refl

  step_is : (places : Places) (kept : List Places) → joined_step (conditions_of from) items places (with_places kept) ≡ (row_step from items places kept >>= (λ more. Ok (with_places more)))
  step_is places kept = step_by places kept (is_taken (conditions_of from) items places)

  then_rest : (r : Result (List Places) FaultKind) (rest : List Joined → Result (List Joined) FaultKind) (others : List Places → Result (List Places) FaultKind)
      → ((kept : List Places) → rest (with_places kept) ≡ (others kept >>= (λ more. Ok (with_places more))))
      → ((r >>= (λ more. rows_ok (with_places more))) >>= rest) ≡ ((r >>= others) >>= (λ more. Ok (with_places more)))
  then_rest (Ok kept) rest others h = h kept
  then_rest (Err fault) rest others h = refl

  pub steps_are : (tuples : List Places) (kept : List Places)
      → each_in_turn (joined_step (conditions_of from) items) tuples (with_places kept) ≡ (each_in_turn (row_step from items) tuples kept >>= (λ more. Ok (with_places more)))
  steps_are [] kept = refl
  steps_are (places ∷ tuples) kept =
      ap (λ r. r >>= each_in_turn (joined_step (conditions_of from) items) tuples) (step_is places kept)
      ∙ then_rest (row_step from items places kept) (each_in_turn (joined_step (conditions_of from) items) tuples) (each_in_turn (row_step from items) tuples) (λ more. steps_are tuples more)

  rows_of_pairs : (pairs : List (List Tuple × ℕ)) → map (λ (part : Tuple × ℕ). part.0) (map part_at pairs) ≡ map (λ (rows, place). slice_index_or rows place []) pairs
  rows_of_pairs [] = refl
  rows_of_pairs ((rows, place) ∷ pairs) = λ i. slice_index_or rows place [] ∷ rows_of_pairs pairs i

  bare : (kept : List Places) → map rows_in (with_places kept) ≡ map (rows_at items) kept
  bare [] = refl
  bare (places ∷ kept) = λ i. rows_of_pairs (zip items places) i ∷ bare kept i

  bare_over : (r : Result (List Places) FaultKind) → result_map (λ rows. map rows_in rows) (r >>= (λ kept. rows_ok (with_places kept))) ≡ (r >>= (λ kept. Ok (map (rows_at items) kept)))
  bare_over (Ok kept) = ap Ok (bare kept)
  bare_over (Err fault) = refl

  -- without their places they are the base rows
  pub rows_are : result_map (λ rows. map rows_in rows) (rows_over from items) ≡ (kept_places from items >>= (λ kept. Ok (map (rows_at items) kept)))
  rows_are = bare_over (kept_places from items)

-- what a call gives whose rows are these
pub base_from : (tables : Tables) (from : FromPart) (items : List (List Tuple)) (rows out : List Joined) → items ≡ items_of tables from → rows_over from items ≡ Ok rows → out ≡ rows
    → marked (plain_fault 0) (base_rows tables from) ≡ Ok (map rows_in out)
base_from tables from items rows out i g o =
    ap (marked (plain_fault 0))
    (ap (λ (all : List (List Tuple)). kept_places from all >>= (λ kept. Ok (map (rows_at all) kept))) (sym i)
    ∙ sym (rows_are from items)
    ∙ ap (result_map (λ rows. map rows_in rows)) g)
    ∙ ap (λ (rs : List Joined). Ok (map rows_in rs)) (sym o)

-- the walk over all tuples gives the base rows with their places
pub walk_meant : (from : FromPart) (items : List (List Tuple)) (conditions : List Expr) (tuple : Places) (kept : List Joined) → conditions ≡ conditions_of from → tuple ≡ [] → kept ≡ []
    → rows_behind (joined_step conditions items) (counts_from items (length tuple)) tuple kept ≡ rows_over from items
walk_meant from items conditions tuple kept e t k =
    (λ i. rows_behind (joined_step (e i) items) (counts_from items (length (t i))) (t i) (k i))
    ∙ from_first (joined_step (conditions_of from) items) items []
    ∙ steps_are from items (all_places (map length items)) []
