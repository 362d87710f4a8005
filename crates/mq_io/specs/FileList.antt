-- A list of files in memory, as a map from names to bytes.
use Rattle.std.specs.Prelude.{ℕ, List, Option, String, Vec, map, string_bytes, bytes_eq}
use Rattle.std.specs.declared.alloc.Global.{Global}
use Rattle.std.specs.Map.{lookup}

-- the names of the files, each with its bytes
abbrev pub file_list : List (String Global × Vec ℕ Global) → List (List ℕ × List ℕ)
file_list files = map (λ f. (string_bytes f.0, f.1.items)) files

-- the bytes of the file of that name: those of the first, where several have it
abbrev pub file_of : List (List ℕ × List ℕ) → List ℕ → Option (List ℕ)
file_of files name = lookup (λ n. bytes_eq n name) files
