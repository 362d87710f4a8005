-- Texts that are shared.
use Rattle.std.specs.Prelude.{ℕ, List, [], Option, None, Some}
use Rattle.std.specs.Arc.{arc_str_bytes}
use Rattle.std.specs.declared.sync.ArcStr.{ArcStr}
use Rattle.std.specs.declared.alloc.Global.{Global}

-- the bytes behind the pointer; no pointer is the empty text
abbrev pub bytes_behind : Option (ArcStr Global) → List ℕ
bytes_behind None = []
bytes_behind (Some a) = arc_str_bytes a
