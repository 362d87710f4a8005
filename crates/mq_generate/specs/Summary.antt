-- The lines of an output, and its summary in five lines.
use Rattle.std.specs.Prelude.{Bool, ℕ, ◌==◌, List, [], ◌∷◌, ◌++◌, length, Option, None, Some, nat_eq, decimal, codes, unwrap_or, count_by, fold, ◌||◌, not, if◌then◌else◌}
use Rattle.std.specs.List.{starts_with}
use Rattle.mq_values.specs.Bytes.{LINE_FEED}

-- the lines that end in these bytes, where a front stands before the first of them
abbrev pub ended_lines : List ℕ → List ℕ → List (List ℕ)
ended_lines front [] = []
ended_lines front (b ∷ bytes) = if b == LINE_FEED then front ∷ ended_lines [] bytes else ended_lines (front ++ b ∷ []) bytes

-- the line that is open at the end of these bytes
abbrev pub open_line : List ℕ → List ℕ → List ℕ
open_line front [] = front
open_line front (b ∷ bytes) = if b == LINE_FEED then open_line [] bytes else open_line (front ++ b ∷ []) bytes

-- an open line is a line where it has bytes
abbrev pub line_if_any : List ℕ → List (List ℕ)
line_if_any [] = []
line_if_any line = line ∷ []

-- the lines of an output: each ends at its LF, and a last one without LF is a line too
abbrev pub lines_of : List ℕ → List (List ℕ)
lines_of output = ended_lines [] output ++ line_if_any (open_line [] output)

abbrev pub begins : List ℕ → List ℕ → Bool
begins word line = starts_with nat_eq line word

-- the line of a refusal
abbrev pub is_error : List ℕ → Bool
is_error line = begins (codes "error") line

-- the line of a fault
abbrev pub is_fault : List ℕ → Bool
is_fault line = begins (codes "fault") line

-- a row of an answer
abbrev pub is_row : List ℕ → Bool
is_row line = not (begins (codes "ok") line || (begins (codes "rows") line || (is_error line || is_fault line)))

-- the later of a row and a line, where that is a row
abbrev pub later_row : Option (List ℕ) → List ℕ → Option (List ℕ)
later_row row line = if is_row line then Some line else row

-- the last row, if there is any
abbrev pub last_row : List (List ℕ) → Option (List ℕ)
last_row = fold later_row None

-- the summary of the output of so many statements: five lines
abbrev pub summary_of : ℕ → List ℕ → List ℕ
summary_of statements output =
    codes "statements " ++ (decimal statements
    ++ (codes "\nerrors " ++ (decimal (count_by is_error (lines_of output))
    ++ (codes "\nfaults " ++ (decimal (count_by is_fault (lines_of output))
    ++ (codes "\nbytes " ++ (decimal (length output)
    ++ (codes "\nlast " ++ (unwrap_or (last_row (lines_of output)) (codes "-") ++ codes "\n")))))))))
