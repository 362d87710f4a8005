-- What is noted of the lines of a piece, by their places in it.
use Rattle.std.specs.Prelude.{◌≡◌, ◌≤◌, ℕ, ◌+◌, ◌==◌, List, [], ◌++◌, length, take, Some, IfSome, count_by, option_map, if◌then◌else◌}
use Rattle.std.specs.List.{slice_range}
use Rattle.mq_generate.specs.declared.lines.Span.{Span}
use Rattle.mq_generate.specs.declared.lines.Notes.{Notes}
use Rattle.mq_generate.specs.Summary.{ended_lines, is_error, is_fault, is_row, last_row, open_line}

-- the front stands before a line that starts where the piece does
abbrev pub front_at : List ℕ → ℕ → List ℕ
front_at front start = if start == 0 then front else []

-- the text of a line of the piece
abbrev pub text_of : List ℕ → List ℕ → Span → List ℕ
text_of front piece line = front_at front line.start ++ slice_range piece line.start line.end

-- the line that ends at this place is noted
abbrev pub notes_with_line : List ℕ → List ℕ → Notes → ℕ → Notes
notes_with_line front piece notes end =
    let line : Span = record { start = notes.start; end = end } in
    record {
      errors = notes.errors + (if is_error (text_of front piece line) then 1 else 0);
      faults = notes.faults + (if is_fault (text_of front piece line) then 1 else 0);
      row = if is_row (text_of front piece line) then Some line else notes.row;
      start = end + 1;
    }

-- the place lies in the piece
pub record IsWithin (piece : List ℕ) (line : Span) : Type 0 where
  pub ordered : line.start ≤ line.end
  pub inside : line.end ≤ length piece

-- what is noted of the first bytes of the piece, of which there are so many
pub record IsNoted (front piece : List ℕ) (read : ℕ) (notes : Notes) : Type 0 where
  pub errors : notes.errors ≡ count_by is_error (ended_lines front (take read piece))
  pub faults : notes.faults ≡ count_by is_fault (ended_lines front (take read piece))
  pub row : option_map (text_of front piece) notes.row ≡ last_row (ended_lines front (take read piece))
  pub place : IfSome notes.row (IsWithin piece)
  pub within : notes.start ≤ read
  pub begun : text_of front piece (record { start = notes.start; end = read }) ≡ open_line front (take read piece)
