-- Some rows of one FROM item in the place of all of its rows.
use Rattle.std.specs.Prelude.{ℕ, List, [], map, Option, Some, None, slice_index_or, slice_set}
use Rattle.mq_ir.specs.Keys.{Tuple}

-- the rows that stand at these places
abbrev pub rows_at_places : List Tuple → List ℕ → List Tuple
rows_at_places rows places = map (λ place. slice_index_or rows place []) places

-- all rows, or those at some places
abbrev pub rows_chosen : List Tuple → Option (List ℕ) → List Tuple
rows_chosen rows None = rows
rows_chosen rows (Some places) = rows_at_places rows places

-- the rows of the FROM items, of the item of this number those at these places alone
abbrev pub choosing : ℕ → List ℕ → List (List Tuple) → List (List Tuple)
choosing item places items = slice_set items item (rows_at_places (slice_index_or items item []) places)
