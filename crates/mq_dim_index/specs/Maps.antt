-- The keys in the order of one dimension, and what an edit leaves of them.
use Rattle.std.specs.Prelude.{◌≡◌, ℕ, ◌<◌, ◌≤◌, List, length}
use Rattle.std.specs.BTreeMap.{is_at}
use Rattle.std.specs.BTreeSet.{insert_key}
use Rattle.std.specs.List.{insert, remove, sum_by}
use Rattle.std.specs.Set.{remove_key}
use Rattle.mq_dim_index.specs.Places.{Tuple}
use Rattle.mq_dim_index.specs.Runs.{cmp_from}

-- keys in the order of one dimension
pub record Arranged : Type 0 where
  pub dimension : ℕ
  pub keys : List Tuple

-- with this key at its place, unless it is there
abbrev pub with_key_in : Arranged → Tuple → Arranged
with_key_in m key = record { dimension = m.dimension; keys = insert_key (cmp_from m.dimension) m.keys key }

-- without this key
abbrev pub without_key_in : Arranged → Tuple → Arranged
without_key_in m key = record { dimension = m.dimension; keys = remove_key (is_at (cmp_from m.dimension key)) m.keys }

-- the same keys, each as often, in whatever order: whatever is summed over them
abbrev pub SameKeys : List Tuple → List Tuple → Type 0
SameKeys keys others = (f : Tuple → ℕ) → sum_by f others ≡ sum_by f keys

-- a map has these keys
abbrev pub MapsKeys : List Tuple → Arranged → Type 0
MapsKeys keys m = SameKeys keys m.keys

-- a key stands at this place of the keys in the order of a dimension
pub record StandsFrom (d : ℕ) (keys : List Tuple) (key : Tuple) (at : ℕ) : Type 0 where
  pub below : at < length keys
  pub removed : remove keys at ≡ remove_key (is_at (cmp_from d key)) keys
  pub kept : insert_key (cmp_from d) keys key ≡ keys

-- a key is not among them, and its place would be this one
pub record FitsFrom (d : ℕ) (keys : List Tuple) (key : Tuple) (at : ℕ) : Type 0 where
  pub within : at ≤ length keys
  pub inserted : insert keys at key ≡ insert_key (cmp_from d) keys key
  pub unchanged : remove_key (is_at (cmp_from d key)) keys ≡ keys
