-- Lines of rows that follow a change of the rows, by what it touched.
use Rattle.std.specs.Prelude.{◌≡◌, ℕ, nat_lt, Bool, ◌&&◌, false, not, List, [], ◌∷◌, ◌++◌, map, length, if◌then◌else◌}
use Rattle.std.specs.Prelude.{Option, Some, None, Result, Ok, Err, slice_index_or, slice_set}
use Rattle.std.specs.List.{enumerate_from, filter}
use Rattle.mq_values.specs.declared.faults.FaultKind.{FaultKind}
use Rattle.mq_values.specs.declared.limits.TheConstants.{MAX_BASE_ROWS}
use Rattle.mq_values.specs.declared.memory.Fail.{Fail}
use Rattle.mq_values.specs.declared.memory.Fail.TheVariants as fail
use Rattle.mq_values.specs.declared.memory.Memory.{Memory}
use Rattle.mq_ir.specs.Keys.{Tuple}
use Rattle.mq_ir.specs.Results.{◌>>=◌, each}
use Rattle.mq_delta_items.specs.declared.following.ItemChange.{ItemChange}
use Rattle.mq_delta_items.specs.Lines.{items_in}
use Rattle.mq_delta_parts.specs.Woven.{IsChangeOf}

-- what a query makes of a row
abbrev pub LineOf : Type 0
LineOf = Tuple → Result (Option Tuple) FaultKind

-- the lines are those of the rows now, and their items are what these items that went and came make of those before
pub record FollowsLines (line_of : LineOf) (rows : List Tuple) (old new : List (Option Tuple)) (change : ItemChange) : Type 0 where
  pub lines : each line_of rows ≡ Ok new
  pub items : IsChangeOf (items_in old) change.gone change.come (items_in new)

-- the same of an answer: a fault is the first that a row now has
abbrev pub HasFollowed : LineOf → List Tuple → List (Option Tuple) → List (Option Tuple) → Result ItemChange (Fail FaultKind) → Type 0
HasFollowed line_of rows old new (Ok change) = FollowsLines line_of rows old new change
HasFollowed line_of rows old new (Err (fail.Cause fault)) = each line_of rows ≡ Err fault
HasFollowed line_of rows old new (Err fail.Memory) = Unit {0}

-- a change is told where it was followed, and no more rows are taken then than a query may have
abbrev pub unless_over : ℕ → Result ItemChange (Fail FaultKind) → Result (Option ItemChange) Memory
unless_over taken (Ok change) = Ok (if nat_lt MAX_BASE_ROWS taken then None else Some change)
unless_over taken (Err (fail.Cause fault)) = Ok None
unless_over taken (Err fail.Memory) = Err (record {})

-- ---- how they are made
-- lines, with the items that went and came
abbrev pub Followed : Type 0
Followed = List (Option Tuple) × ItemChange

abbrev pub no_change : ItemChange
no_change = record { gone = []; come = [] }

-- the same with the items of a line that went and of one that came
abbrev pub with_exchange : ItemChange → Option Tuple → Option Tuple → ItemChange
with_exchange change old line = record { gone = change.gone ++ items_in (old ∷ []); come = change.come ++ items_in (line ∷ []) }

-- with the lines of rows that came
abbrev pub lengthened : LineOf → List Tuple → List (Option Tuple) → Result Followed FaultKind
lengthened line_of rows lines = each line_of rows >>= (λ new. Ok (lines ++ new, record { gone = []; come = items_in new }))

-- with the line of the row that stands now at the place of this one, where a row and a line stand there
abbrev pub made_anew : LineOf → List Tuple → ℕ × Tuple → Followed → Result Followed FaultKind
made_anew line_of rows was before =
    if nat_lt was.0 (length rows) && nat_lt was.0 (length before.0)
    then line_of (slice_index_or rows was.0 []) >>= (λ line.
    Ok (slice_set before.0 was.0 line, with_exchange before.1 (slice_index_or before.0 was.0 None) line))
    else Ok before

-- without the lines of rows that are told, place by place, to be gone: those that stay of lines with their places, and those that went
abbrev pub stay_of : List Bool → List (ℕ × Option Tuple) → List (Option Tuple)
stay_of flags lines = map (λ line. line.1) (filter (λ line. not (slice_index_or flags line.0 false)) lines)

abbrev pub went_of : List Bool → List (ℕ × Option Tuple) → List (Option Tuple)
went_of flags lines = map (λ line. line.1) (filter (λ line. slice_index_or flags line.0 false) lines)

abbrev pub shortened : List Bool → List (Option Tuple) → Followed
shortened flags lines =
    (stay_of flags (enumerate_from 0 lines), record { gone = items_in (went_of flags (enumerate_from 0 lines)); come = [] })
