-- What contracts see of the objects in memory.
use Rattle.std.specs.Prelude.{ℕ, List}
use Rattle.mq_io.specs.Calls.{Calls}

-- a source: the bytes that it has left, and how many it gives a call
pub record Feed : Type 0 where
  pub left : List ℕ
  pub piece : ℕ
  pub calls : Calls

-- a sink: the bytes that it has taken, and how many it takes a call
pub record Collection : Type 0 where
  pub taken : List ℕ
  pub piece : ℕ
  pub calls : Calls

-- a shelf: the names of the files, each with its bytes
pub record Files : Type 0 where
  pub files : List (List ℕ × List ℕ)
  pub calls : Calls
