-- Base rows as they are handed out: each row with its place.
use Rattle.std.specs.Prelude.{ℕ, ◌-◌, ◌^◌, List, [], map, Result, Ok, slice_index_or}
use Rattle.std.specs.List.{zip}
use Rattle.mq_values.specs.declared.faults.FaultKind.{FaultKind}
use Rattle.mq_ir.specs.declared.query.FromPart.{FromPart}
use Rattle.mq_ir.specs.BaseRows.{Places, items_of, kept_places}
use Rattle.mq_ir.specs.Keys.{Tuple}
use Rattle.mq_ir.specs.Results.{◌>>=◌}
use Rattle.mq_ir.specs.Tables.{Tables}

-- for each FROM item a row of it, and the place of that row
abbrev pub Joined : Type 0
Joined = List (Tuple × ℕ)

abbrev pub rows_in : Joined → List Tuple
rows_in row = map (λ part. part.0) row

abbrev pub places_in : Joined → Places
places_in row = map (λ part. part.1) row

-- the last place that 32 bits tell; a place past it is told as that
abbrev pub LAST_PLACE : ℕ
LAST_PLACE = 2 ^ 32 - 1

abbrev pub part_at : List Tuple × ℕ → Tuple × ℕ
part_at (rows, place) = (slice_index_or rows place [], place)

-- the rows that stand at these places of the items, each with its place
abbrev pub joined_at : List (List Tuple) → Places → Joined
joined_at items places = map part_at (zip items places)

-- The base rows over the rows of the FROM items, each with the places of its rows.
abbrev pub rows_over : FromPart → List (List Tuple) → Result (List Joined) FaultKind
rows_over from items = kept_places from items >>= (λ kept. Ok (map (joined_at items) kept))

-- the same over tables
abbrev pub joined_rows : Tables → FromPart → Result (List Joined) FaultKind
joined_rows tables from = rows_over from (items_of tables from)
