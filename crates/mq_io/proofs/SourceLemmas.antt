-- What a read of bytes in memory gives.
use Rattle.std.proofs.Common.{◌≡◌, ℕ, ◌+◌, ◌-◌, ◌<◌, ◌≤◌, min, List, [], ◌++◌, length, take, drop, sym, ap, ◌∙◌, arith, length-drop, length-take, take-append-drop}
use Rattle.std.proofs.lemmas.List.{take_all, drop_all, drop-drop, take-append-le}

-- a buffer that begins with a front of the bytes shows that front
shown_front : (rest buf old : List ℕ) (n : ℕ) → n ≤ length rest → buf ≡ take n rest ++ drop n old → take n buf ≡ take n rest
shown_front rest buf old n le e =
    let long : n ≤ length (take n rest) = omega (arith, length-take n rest) in
    let short : length (take n rest) ≤ n = omega (arith, length-take n rest) in
    ap (take n) e ∙ take-append-le n (take n rest) (drop n old) long ∙ take_all n (take n rest) short

-- the next bytes were given, and those behind them are left
given_next : (bytes buf old : List ℕ) (at n : ℕ) → n ≤ length (drop at bytes) → buf ≡ take n (drop at bytes) ++ drop n old
    → drop at bytes ≡ take n buf ++ drop (at + n) bytes
given_next bytes buf old at n le e =
    sym (take-append-drop n (drop at bytes)) ∙ ap (λ l. l ++ drop n (drop at bytes)) (sym (shown_front (drop at bytes) buf old n le e)) ∙ ap (λ l. take n buf ++ l) (drop-drop n at bytes)

-- none are given to a buffer with room only where none are left
given_none : (bytes buf old : List ℕ) (at n piece : ℕ) → 0 < piece → n ≡ min (length old) (min piece (length (drop at bytes))) → length buf ≡ length old
    → n ≡ 0 → 0 < length buf → drop (at + n) bytes ≡ []
given_none bytes buf old at n piece p m same z room =
    drop_all (at + n) bytes (omega (arith, length-drop at bytes))

-- what a read of a piece gives
pub given : (bytes shown buf old left : List ℕ) (at n piece : ℕ) → shown ≡ bytes → drop at bytes ≡ left → 0 < piece → length buf ≡ length old
    → n ≡ min (length old) (min piece (length (take (length shown - at) (drop at shown))))
    → buf ≡ take n (take (length shown - at) (drop at shown)) ++ drop n old
    → (left ≡ take n buf ++ drop (at + n) bytes) × (n ≡ 0 → 0 < length buf → drop (at + n) bytes ≡ [])
given bytes shown buf old left at n piece s l p same m e =
    let rest : take (length shown - at) (drop at shown) ≡ drop at bytes = take_all _ _ (omega (arith, length-drop at shown)) ∙ ap (drop at) s in
    let m' : n ≡ min (length old) (min piece (length (drop at bytes))) = m ∙ ap (λ r. min (length old) (min piece (length r))) rest in
    let e' : buf ≡ take n (drop at bytes) ++ drop n old = e ∙ ap (λ r. take n r ++ drop n old) rest in
    (sym l ∙ given_next bytes buf old at n (omega arith) e', given_none bytes buf old at n piece p m' same)
