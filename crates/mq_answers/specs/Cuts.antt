-- Lists of parts.
use Rattle.std.specs.Prelude.{List}
use Rattle.std.specs.List.{flat_map}

-- the items of these parts
abbrev pub joined : {T : Type 0} → List (List T) → List T
joined = flat_map (λ part. part)
