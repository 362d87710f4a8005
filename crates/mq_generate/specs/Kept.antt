-- What a summary's sink keeps of the bytes that it has taken.
use Rattle.std.specs.Prelude.{◌≡◌, ◌≤◌, [], length, count_by, option_map}
use Rattle.mq_io.specs.Causes.{LAST_COUNT}
use Rattle.mq_generate.specs.Summary.{ended_lines, is_error, is_fault, last_row, open_line}
use Rattle.mq_generate.specs.declared.sink.SummarySink.TheInside.{Inside}

-- counts and the last row of the lines that have ended, the line that is open, and how many bytes there were
pub record IsKept (kept : Inside) : Type 0 where
  pub errors : kept.errors ≡ count_by is_error (ended_lines [] kept.told.bytes)
  pub faults : kept.faults ≡ count_by is_fault (ended_lines [] kept.told.bytes)
  pub size : kept.size ≡ length kept.told.bytes
  pub room : kept.size ≤ LAST_COUNT
  pub row : option_map (λ text. text.items) kept.row ≡ last_row (ended_lines [] kept.told.bytes)
  pub begun : kept.begun.items ≡ open_line [] kept.told.bytes
