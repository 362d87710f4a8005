-- Numbers that count on from 0.
use Rattle.std.proofs.Common.{◌≡◌, ℕ, ◌<◌, List, length, get_or, sym, ap, arith}
use Rattle.std.specs.List.{range_with_len}
use Rattle.std.proofs.lemmas.List.{ext_get_or}
use Rattle.std.proofs.lemmas.List.FromFn.{get_or-range_with_len, length-range_with_len}

pub in_order : (numbers : List ℕ) → ((k : ℕ) → k < length numbers → get_or numbers k 0 ≡ k) → numbers ≡ range_with_len 0 (length numbers)
in_order numbers h =
    let n = length numbers in
    ext_get_or 0 numbers (range_with_len 0 n) (sym (length-range_with_len 0 n)) (λ i l. omega (arith, h i l, get_or-range_with_len 0 n i 0 l))

pub at_its_place : (numbers : List ℕ) (n k : ℕ) → numbers ≡ range_with_len 0 n → k < n → get_or numbers k 0 ≡ k
at_its_place numbers n k e l =
    let f : get_or numbers k 0 ≡ get_or (range_with_len 0 n) k 0 = ap (λ (xs : List ℕ). get_or xs k 0) e in
    omega (arith, f, get_or-range_with_len 0 n k 0 l)
