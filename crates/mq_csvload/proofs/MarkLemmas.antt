-- A byte order mark at the start of a text.
use Rattle.std.proofs.Common.{◌≡◌, ℕ, ◌≤◌, List, [], ◌∷◌, drop, length, get_or, true, false, ap, arith}
use Rattle.std.specs.Prelude.{if◌then◌else◌}
use Rattle.csv.specs.Reading.{is_bom, strip_bom}

pub mark_goes : (xs : List ℕ) → 3 ≤ length xs → is_bom (get_or xs 0 0) (get_or xs 1 0) (get_or xs 2 0) ≡ true → strip_bom xs ≡ drop 3 xs
unfolding strip_bom
mark_goes [] h e = absurd (omega arith)
mark_goes (a ∷ []) h e = absurd (omega arith)
mark_goes (a ∷ b ∷ []) h e = absurd (omega arith)
mark_goes (a ∷ b ∷ c ∷ rest) h e = ap (λ t. if t then rest else a ∷ b ∷ c ∷ rest) e

pub no_mark_stays : (xs : List ℕ) → 3 ≤ length xs → is_bom (get_or xs 0 0) (get_or xs 1 0) (get_or xs 2 0) ≡ false → strip_bom xs ≡ xs
unfolding strip_bom
no_mark_stays [] h e = absurd (omega arith)
no_mark_stays (a ∷ []) h e = absurd (omega arith)
no_mark_stays (a ∷ b ∷ []) h e = absurd (omega arith)
no_mark_stays (a ∷ b ∷ c ∷ rest) h e = ap (λ t. if t then rest else a ∷ b ∷ c ∷ rest) e
