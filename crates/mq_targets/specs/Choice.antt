-- How targets are chosen among the cells and put in order.
use Rattle.std.specs.Prelude.{◌≡◌, ℕ, Bool, List, [], length, map, slice_index_or}
use Rattle.std.specs.List.{All, filter, zip}
use Rattle.std.specs.Ordering.{then_cmp}
use Rattle.std.specs.declared.cmp.Ordering.{Ordering}
use Rattle.mq_values.specs.Order.{cmp_key}
use Rattle.mq_values.specs.declared.operators.DimTest.{DimTest}
use Rattle.mq_values.specs.declared.operators.DimTest.TheVariants as test
use Rattle.mq_ir.specs.declared.query.SingleLeft.{SingleLeft}
use Rattle.mq_ir.specs.declared.query.SinglePlace.{SinglePlace}
use Rattle.mq_ir.specs.declared.query.SinglePlace.TheVariants.{At, Sym}
use Rattle.mq_ir.specs.Keys.{Tuple, each_first}
use Rattle.mq_ir.specs.Partitions.{ascending}
use Rattle.mq_ir.specs.Printing.{cmp_columns}
use Rattle.mq_ir.specs.Targets.{cmp_targets, meets_symbols, projected, value_at}

-- a place as a test of its dimension
abbrev pub test_at : SinglePlace → DimTest
test_at (At v) = test.At v
test_at (Sym t) = t

-- a place as a test, where a positional place asks nothing
abbrev pub symbol_at : SinglePlace → DimTest
symbol_at (At v) = test.Any
symbol_at (Sym t) = t

-- by the columns of an ORDER BY, with ties ascending
abbrev pub cmp_by : List (ℕ × Bool) → Tuple → Tuple → Ordering
cmp_by order = then_cmp (cmp_columns order) cmp_key

-- a key with the values of the positional places
abbrev pub with_places : List SinglePlace → Tuple → Tuple
with_places places key = map value_at (zip places key)

-- each key has a value for each place
abbrev pub HaveWidth : List SinglePlace → List Tuple → Type 0
HaveWidth places keys = All (λ key. length key ≡ length places) keys

abbrev pub key_at : List Tuple → ℕ → Tuple
key_at keys place = slice_index_or keys place []

-- the targets under UPSERT ALL of a left side with a symbolic place
abbrev pub combined : SingleLeft → List Tuple → List Tuple
combined left set = ascending (cmp_targets left) (each_first (map (projected left) (filter (meets_symbols left) set)))
