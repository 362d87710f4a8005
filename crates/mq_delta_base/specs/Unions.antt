-- The union of two lists that ascend, as it is made.
use Rattle.std.specs.Prelude.{◌≡◌, ℕ, ◌+◌, ◌≤◌, false, if◌then◌else◌, List, [], ◌∷◌, ◌++◌, drop, length, slice_get, Option}
use Rattle.std.specs.Option.{option_map_or}
use Rattle.std.specs.Ordering.{is_eq, is_lt}
use Rattle.std.specs.declared.cmp.Ordering.{Ordering}
use Rattle.std.specs.declared.cmp.Ordering.TheVariants.{Greater}
use Rattle.mq_ir.specs.BaseRows.{Places}
use Rattle.mq_delta_base.specs.Sets.{cmp_places, union}

-- how the tuple of a number stands to another; behind the end as if it were greater
abbrev pub order_at : List Places → ℕ → Places → Ordering
order_at a at tuple = option_map_or (λ x. cmp_places x tuple) (slice_get a at) Greater

-- the place behind a tuple, where it stands there
abbrev pub place_behind : List Places → ℕ → Places → ℕ
place_behind a at tuple = if is_eq (order_at a at tuple) then at + 1 else at

-- the tuples of a from `at` to `end` were put behind `before`, and are those below a tuple
pub record PushesBelow (a : List Places) (at : ℕ) (tuple : Places) (before : List Places) (end : ℕ) (after : List Places) : Type 0 where
  pub within : end ≤ length a
  pub above : is_lt (order_at a end tuple) ≡ false
  pub same : (rest : List Places) → after ++ union (drop end a) (tuple ∷ rest) ≡ before ++ union (drop at a) (tuple ∷ rest)

-- the tuple itself was put behind them
pub record IsNext (a : List Places) (at : ℕ) (tuple : Places) (before : List Places) (next : ℕ) (after : List Places) : Type 0 where
  pub within : next ≤ length a
  pub same : (rest : List Places) → after ++ union (drop next a) rest ≡ before ++ union (drop at a) (tuple ∷ rest)
