-- The items of a query that takes the rows of one table are those of its lines.
use Rattle.std.proofs.Common.{◌≡◌, ℕ, suc, ◌+◌, ◌<◌, ◌≤◌, Bool, true, false, List, [], ◌∷◌, ◌++◌, length, map, Option, Some, None, Result, Ok, Err, refl, sym, ap, subst, ◌∙◌, append_assoc, arith}
use Rattle.std.specs.Prelude.{nat_lt, slice_index_or, if◌then◌else◌}
use Rattle.std.specs.List.{range_with_len}
use Rattle.std.specs.Option.{option_and_then}
use Rattle.std.specs.Result.{result_ok}
use Rattle.std.proofs.lemmas.List.{append-nil, length-append}
use Rattle.std.proofs.lemmas.List.Concat.{flat_map_single}
use Rattle.mq_values.specs.declared.faults.FaultKind.{FaultKind}
use Rattle.mq_values.specs.declared.faults.FaultKind.TheVariants as kind
use Rattle.mq_values.specs.declared.limits.TheConstants.{MAX_BASE_ROWS}
use Rattle.mq_ir.specs.declared.query.ColRef.{ColRef}
use Rattle.mq_ir.specs.declared.query.FromPart.{FromPart}
use Rattle.mq_ir.specs.declared.query.ItemPart.{ItemPart}
use Rattle.mq_ir.specs.BaseRows.{Places, all_true, conditions_of, items_of, kept_places, row_leaves, row_step, rows_at, with_row}
use Rattle.mq_ir.specs.Items.{item_rows, items_at, items_over, stands_of}
use Rattle.mq_ir.specs.Keys.{Tuple}
use Rattle.mq_ir.specs.Placed.{kind_of}
use Rattle.mq_ir.specs.Results.{◌>>=◌, each, each_in_turn, marked}
use Rattle.mq_ir.specs.Tables.{Tables, rows_of}
use Rattle.mq_delta_items.specs.Lines.{LinesTell, few, items_in, line_of, lines_of}

-- a place of the only FROM item
abbrev one : ℕ → Places
one place = place ∷ []

-- lines that are not too many
pub few_are : (lines : List (Option Tuple)) → length (items_in lines) ≤ MAX_BASE_ROWS → few lines ≡ Some lines
few_are lines h = by (nat_lt MAX_BASE_ROWS (length (items_in lines))) (grind (arith, h))
  where
    by : (b : Bool) → b ≡ false → (if b then None else Some lines) ≡ Some lines
    by true e = absurd (cc)
    by false e = refl

-- and the other way round
pub few_were : (lines found : List (Option Tuple)) → few lines ≡ Some found → (lines ≡ found) × (length (items_in lines) ≤ MAX_BASE_ROWS)
few_were lines found h = by (nat_lt MAX_BASE_ROWS (length (items_in lines))) refl h
  where
    by : (b : Bool) → nat_lt MAX_BASE_ROWS (length (items_in lines)) ≡ b → (if b then None else Some lines) ≡ Some found
        → (lines ≡ found) × (length (items_in lines) ≤ MAX_BASE_ROWS)
    by true e h = absurd (cc)
    by false e h = let within : length (items_in lines) ≤ MAX_BASE_ROWS = grind (arith, e) in (cc, within)

lines_found : (found : Result (List (Option Tuple)) FaultKind) (lines : List (Option Tuple))
    → option_and_then few (result_ok found) ≡ Some lines → (found ≡ Ok lines) × (length (items_in lines) ≤ MAX_BASE_ROWS)
lines_found (Err fault) lines h = absurd (cc)
lines_found (Ok all) lines h =
    let were = few_were all lines h in
    (ap Ok were.0, subst (λ (l : List (Option Tuple)). length (items_in l) ≤ MAX_BASE_ROWS) were.0 were.1)

module _ (from : FromPart) (part : ItemPart) where
  -- what the conditions say of a row, and the items over it
  abbrev verdict : Tuple → Result Bool FaultKind
  verdict row = marked kind_of (all_true (row_leaves (row ∷ [])) (conditions_of from))

  abbrev item : Tuple → Result Tuple FaultKind
  item row = items_at part.items (row_leaves (row ∷ []))

  -- ---- what lines are made of
  abbrev IsLine : Tuple → Option Tuple → Type 0
  IsLine row None = verdict row ≡ Ok false
  IsLine row (Some found) = (verdict row ≡ Ok true) × (item row ≡ Ok found)

  abbrev AreLines : List Tuple → List (Option Tuple) → Type 0
  AreLines [] [] = Unit {0}
  AreLines [] (line ∷ lines) = ⊥
  AreLines (row ∷ rows) [] = ⊥
  AreLines (row ∷ rows) (line ∷ lines) = IsLine row line × AreLines rows lines

  line_is : (row : Tuple) (line : Option Tuple) → line_of from part row ≡ Ok line → IsLine row line
  line_is row line h = by (verdict row) (item row) refl refl h
    where
      by : (v : Result Bool FaultKind) (r : Result Tuple FaultKind) → verdict row ≡ v → item row ≡ r
          → (v >>= (λ taken. if taken then r >>= (λ found. Ok (Some found)) else Ok None)) ≡ Ok line → IsLine row line
      by (Ok true) (Ok found) a b h = let e : Some found ≡ line = cc in subst (IsLine row) e (a, b)
      by (Ok true) (Err fault) a b h = absurd (cc)
      by (Ok false) r a b h = let e : None ≡ line = cc in subst (IsLine row) e a
      by (Err fault) r a b h = absurd (cc)

  lines_are : (rows : List Tuple) (lines : List (Option Tuple)) → each (line_of from part) rows ≡ Ok lines → AreLines rows lines
  lines_are [] lines h = let e : [] ≡ lines = cc in subst (AreLines []) e tt
  lines_are (row ∷ rows) lines h = by (line_of from part row) (each (line_of from part) rows) (line_is row) (lines_are rows) h
    where
      by : (o : Result (Option Tuple) FaultKind) (os : Result (List (Option Tuple)) FaultKind)
          → ((line : Option Tuple) → o ≡ Ok line → IsLine row line) → ((rest : List (Option Tuple)) → os ≡ Ok rest → AreLines rows rest)
          → (o >>= (λ line. os >>= (λ rest. Ok (line ∷ rest)))) ≡ Ok lines → AreLines (row ∷ rows) lines
      by (Ok line) (Ok rest) f g h = let e : line ∷ rest ≡ lines = cc in subst (AreLines (row ∷ rows)) e (f line refl, g rest refl)
      by (Ok line) (Err fault) f g h = absurd (cc)
      by (Err fault) os f g h = absurd (cc)

  -- ---- the walk over the rows of the table
  -- the places of the rows that are taken, counted from k
  abbrev places_from : ℕ → List (Option Tuple) → List Places
  places_from k [] = []
  places_from k (None ∷ lines) = places_from (k + 1) lines
  places_from k (Some found ∷ lines) = one k ∷ places_from (k + 1) lines

  module _ (table : List Tuple) where
    -- these are the rows from place k on
    abbrev StandFrom : ℕ → List Tuple → Type 0
    StandFrom k rows = (i : ℕ) → slice_index_or table (k + i) [] ≡ slice_index_or rows i []

    whole : StandFrom 0 table
    whole i = let e : 0 + i ≡ i = omega arith in ap (λ n. slice_index_or table n []) e

    first : (k : ℕ) (row : Tuple) (rows : List Tuple) → StandFrom k (row ∷ rows) → slice_index_or table k [] ≡ row
    first k row rows at = let e : k ≡ k + 0 = omega arith in ap (λ n. slice_index_or table n []) e ∙ at 0

    behind : (k : ℕ) (row : Tuple) (rows : List Tuple) → StandFrom k (row ∷ rows) → StandFrom (k + 1) rows
    behind k row rows at i = let e : k + 1 + i ≡ k + suc i = omega arith in ap (λ n. slice_index_or table n []) e ∙ at (suc i)

    -- what the walk makes of the row at place k
    abbrev step_by : ℕ → List Places → Result Bool FaultKind → Result (List Places) FaultKind
    step_by k kept v = v >>= (λ taken. if taken then with_row (one k) kept else Ok kept)

    step_is : (k : ℕ) (kept : List Places) (row : Tuple) (v : Result Bool FaultKind) → slice_index_or table k [] ≡ row → verdict row ≡ v
        → row_step from (table ∷ []) (one k) kept ≡ step_by k kept v
    step_is k kept row v at is = ap (λ (r : Tuple). step_by k kept (verdict r)) at ∙ ap (step_by k kept) is

    roomy : (k : ℕ) (kept : List Places) (b : Bool) → b ≡ true
        → (if b then Ok (kept ++ one k ∷ []) else Err kind.TooManyRows) ≡ Ok (kept ++ one k ∷ [])
    roomy k kept true e = refl
    roomy k kept false e = absurd (cc)

    put : (k : ℕ) (kept : List Places) → length kept < MAX_BASE_ROWS → with_row (one k) kept ≡ Ok (kept ++ one k ∷ [])
    put k kept h =
        let lt : nat_lt (length kept) MAX_BASE_ROWS ≡ true = grind (arith, h) in
        roomy k kept (nat_lt (length kept) MAX_BASE_ROWS) lt

    walked : (rows : List Tuple) (lines : List (Option Tuple)) (k : ℕ) (kept : List Places) → StandFrom k rows → AreLines rows lines
        → length kept + length (items_in lines) ≤ MAX_BASE_ROWS
        → each_in_turn (row_step from (table ∷ [])) (map one (range_with_len k (length rows))) kept ≡ Ok (kept ++ places_from k lines)
    walked [] [] k kept at are h = ap Ok (sym (append-nil kept))
    walked [] (line ∷ lines) k kept at are h = absurd are
    walked (row ∷ rows) [] k kept at are h = absurd are
    walked (row ∷ rows) (None ∷ lines) k kept at are h =
        let rest = each_in_turn (row_step from (table ∷ [])) (map one (range_with_len (k + 1) (length rows))) in
        ap (λ (r : Result (List Places) FaultKind). r >>= rest) (step_is k kept row (Ok false) (first k row rows at) are.0)
        ∙ walked rows lines (k + 1) kept (behind k row rows at) are.1 h
    walked (row ∷ rows) (Some found ∷ lines) k kept at are h =
        let rest = each_in_turn (row_step from (table ∷ [])) (map one (range_with_len (k + 1) (length rows))) in
        let more : length (items_in (Some found ∷ lines)) ≡ length (items_in lines) + 1 = omega arith in
        let longer : length (kept ++ one k ∷ []) ≡ length kept + 1 = length-append kept (one k ∷ []) in
        let room : length (kept ++ one k ∷ []) + length (items_in lines) ≤ MAX_BASE_ROWS = omega (arith, h, more, longer) in
        ap (λ (r : Result (List Places) FaultKind). r >>= rest)
        (step_is k kept row (Ok true) (first k row rows at) are.0.0 ∙ put k kept (omega (arith, h, more)))
        ∙ walked rows lines (k + 1) (kept ++ one k ∷ []) (behind k row rows at) are.1 room
        ∙ ap Ok (append_assoc kept (one k ∷ []) (places_from (k + 1) lines))

    -- ---- the items of the rows that are taken
    found_of : (rows : List Tuple) (lines : List (Option Tuple)) (k : ℕ) → StandFrom k rows → AreLines rows lines
        → each (items_at part.items) (map row_leaves (map (rows_at (table ∷ [])) (places_from k lines))) ≡ Ok (items_in lines)
    found_of [] [] k at are = refl
    found_of [] (line ∷ lines) k at are = absurd are
    found_of (row ∷ rows) [] k at are = absurd are
    found_of (row ∷ rows) (None ∷ lines) k at are = found_of rows lines (k + 1) (behind k row rows at) are.1
    found_of (row ∷ rows) (Some found ∷ lines) k at are =
        let rest = each (items_at part.items) (map row_leaves (map (rows_at (table ∷ [])) (places_from (k + 1) lines))) in
        ap (λ (r : Result Tuple FaultKind). r >>= (λ y. rest >>= (λ ys. Ok (y ∷ ys)))) (ap item (first k row rows at) ∙ are.0.1)
        ∙ ap (λ (r : Result (List Tuple) FaultKind). r >>= (λ ys. Ok (found ∷ ys)))
        (found_of rows lines (k + 1) (behind k row rows at) are.1)

    -- ---- all together
    kept_are : (lines : List (Option Tuple)) → AreLines table lines → length (items_in lines) ≤ MAX_BASE_ROWS
        → kept_places from (table ∷ []) ≡ Ok (places_from 0 lines)
    kept_are lines are h =
        let walk = λ (places : List Places). each_in_turn (row_step from (table ∷ [])) places [] in
        let room : 0 + length (items_in lines) ≤ MAX_BASE_ROWS = omega (arith, h) in
        ap walk (flat_map_single one (range_with_len 0 (length table))) ∙ walked table lines 0 [] whole are room

    -- of rows however they were found
    pub lines_of_rows : (tables : Tables) (lines : List (Option Tuple)) → items_of tables from ≡ table ∷ [] → part.group ≡ None
        → lines_of from part table ≡ Some lines → items_over tables from part ≡ Ok (items_in lines)
    lines_of_rows tables lines only plain h =
        let told = lines_found (each (line_of from part) table) lines h in
        let are = lines_are table lines told.0 in
        let base = map (rows_at (table ∷ [])) (places_from 0 lines) in
        ap (λ (items : List (List Tuple)). (kept_places from items >>= (λ kept. Ok (map (rows_at items) kept))) >>= item_rows part) only
        ∙ ap (λ (r : Result (List Places) FaultKind). (r >>= (λ kept. Ok (map (rows_at (table ∷ [])) kept))) >>= item_rows part)
        (kept_are lines are told.1)
        ∙ ap (λ (group : Option (List ColRef)). each (items_at part.items) (stands_of group base)) plain
        ∙ found_of table lines 0 whole are

pub lines_tell : LinesTell
lines_tell tables from part table lines goes h =
    lines_of_rows from part (rows_of tables table) tables lines (ap (map (rows_of tables)) goes.only) goes.plain h
