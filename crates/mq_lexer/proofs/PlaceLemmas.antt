-- Places counted from the front of a list.
use Rattle.std.proofs.Common.{◌≡◌, ℕ, suc, ◌+◌, refl, ap, arith}
use Rattle.std.specs.Prelude.{Option, Some, None}
use Rattle.std.specs.Option.{option_map}

-- a length counted from a place, counted from the front
abbrev pub from_place : ℕ → Option ℕ → Option ℕ
from_place at None = None
from_place at (Some n) = Some (at + n)

pub from_place-suc : (at : ℕ) (o : Option ℕ) → from_place (suc at) o ≡ from_place at (option_map suc o)
from_place-suc at None = refl
from_place-suc at (Some n) = let e : suc at + n ≡ at + suc n = omega arith in ap Some e
