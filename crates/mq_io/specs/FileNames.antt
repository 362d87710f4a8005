-- Which names a folder is asked for.
use Rattle.std.specs.Prelude.{◌≢◌, ℕ, List, [], ◌∷◌}
use Rattle.std.specs.List.{All}
use Rattle.std.specs.Path.{dot, slash}

-- the name of a file that stands in a folder and isn't hidden: it has a first byte, which is no dot, and no slash
abbrev pub IsFileName : List ℕ → Type 0
IsFileName [] = ⊥
IsFileName (first ∷ rest) = (first ≢ dot) × All (λ byte. byte ≢ slash) (first ∷ rest)
