-- Lists that are shared.
use Rattle.std.specs.Prelude.{List, [], Option, None, Some}
use Rattle.std.specs.declared.alloc.Global.{Global}
use Rattle.std.specs.declared.vec.Vec.{Vec}
use Rattle.std.specs.declared.sync.Arc.{Arc}

-- the items behind the pointer; no pointer is the empty list
abbrev pub items_behind : {T : Type 0} → Option (Arc (Vec T Global) Global) → List T
items_behind None = []
items_behind (Some a) = a.value.items
