-- Keys behind a pointer that others may have too.
use Rattle.std.specs.Prelude.{List, [], Option, None, Some}
use Rattle.std.specs.declared.alloc.Global.{Global}
use Rattle.std.specs.declared.sync.Arc.{Arc}
use Rattle.mq_ir.specs.Keys.{Tuple}

-- the keys behind the pointer; no pointer is no key
abbrev pub keys_behind : Option (Arc (List Tuple) Global) → List Tuple
keys_behind None = []
keys_behind (Some a) = a.value
