-- The old places of the rows of a staged change.
use Rattle.std.specs.Prelude.{ℕ, ◌+◌, ◌≤◌, List, [], ◌∷◌, ◌++◌, length, drop, Option, Some, None, IfOk}
use Rattle.mq_ir.specs.declared.statement.Change.{Change}
use Rattle.mq_ir.specs.Tables.{Tables}
use Rattle.mq_tables.specs.Staging.{new_places, staging}

-- the places that are there ascend, and the first of them is n or more
abbrev pub AscendFrom : ℕ → List (Option ℕ) → Type 0
AscendFrom n [] = Unit {0}
AscendFrom n (None ∷ places) = AscendFrom n places
AscendFrom n (Some place ∷ places) = (n ≤ place) × AscendFrom (place + 1) places

-- rows that stood in the table before stand in their old order
abbrev pub KeepsOrder : Tables → Change → Type 0
KeepsOrder tables change = IfOk (staging tables change) (λ s. AscendFrom 0 s.origins)

-- old places of the first of these rows; the others have none
abbrev pub with_none : {A : Type 0} → List (Option ℕ) → List A → List (Option ℕ)
with_none places rows = places ++ new_places (drop (length places) rows)
