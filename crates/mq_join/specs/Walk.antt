-- The walk over all tuples of places, item by item.
use Rattle.std.specs.Prelude.{ℕ, Bool, List, [], ◌∷◌, ◌++◌, drop, length, map, nat_lt, Result, Ok, Err, if◌then◌else◌}
use Rattle.mq_values.specs.declared.faults.FaultKind.{FaultKind}
use Rattle.mq_values.specs.declared.faults.FaultKind.TheVariants as kind
use Rattle.mq_values.specs.declared.limits.TheConstants.{MAX_BASE_ROWS}
use Rattle.mq_ir.specs.declared.expression.Expr.{Expr}
use Rattle.mq_ir.specs.BaseRows.{Places, all_places, all_true, row_leaves, rows_at}
use Rattle.mq_ir.specs.Keys.{Tuple}
use Rattle.mq_ir.specs.Placed.{kind_of}
use Rattle.mq_ir.specs.Results.{◌>>=◌, each_in_turn, marked}
use Rattle.mq_join.specs.Rows.{Joined, joined_at}

-- whether the rows at these places meet all conditions
abbrev pub is_taken : List Expr → List (List Tuple) → Places → Result Bool FaultKind
is_taken conditions items places = marked kind_of (all_true (row_leaves (rows_at items places)) conditions)

-- one base row more, as far as there is room for it
abbrev pub with_joined : List (List Tuple) → Places → List Joined → Result (List Joined) FaultKind
with_joined items places kept =
    if nat_lt (length kept) MAX_BASE_ROWS then Ok (kept ++ joined_at items places ∷ []) else Err kind.TooManyRows

-- what a tuple makes of the base rows so far
abbrev pub Step : Type 0
Step = Places → List Joined → Result (List Joined) FaultKind

abbrev pub joined_step : List Expr → List (List Tuple) → Step
joined_step conditions items places kept =
    is_taken conditions items places >>= (λ taken. if taken then with_joined items places kept else Ok kept)

-- how many rows the items behind the first n have
abbrev pub counts_from : List (List Tuple) → ℕ → List ℕ
counts_from items n = drop n (map length items)

-- a step for each tuple that begins with `front`
abbrev pub rows_behind : Step → List ℕ → Places → List Joined → Result (List Joined) FaultKind
rows_behind step counts front kept = each_in_turn step (map (λ rest. front ++ rest) (all_places counts)) kept

-- the same where the next item stands at this place
abbrev pub rows_at_place : Step → List ℕ → Places → ℕ → List Joined → Result (List Joined) FaultKind
rows_at_place step counts front place kept = rows_behind step counts (front ++ place ∷ []) kept

-- and where it stands at each of these, one after another
abbrev pub rows_at_places : Step → List ℕ → Places → List ℕ → List Joined → Result (List Joined) FaultKind
rows_at_places step counts front places kept = each_in_turn (rows_at_place step counts front) places kept
