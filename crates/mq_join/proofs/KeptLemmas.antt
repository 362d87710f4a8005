-- Tuples of one width in one flat list.
use Rattle.std.proofs.Common.{◌≡◌, ℕ, zero, suc, ◌+◌, ◌-◌, ◌*◌, ◌<◌, ◌≤◌, List, [], ◌∷◌, ◌++◌, length, take, drop, refl, sym, ap, ◌∙◌, length-append, arith}
use Rattle.std.specs.Prelude.{slice_index_or}
use Rattle.std.proofs.Math.Nat.{suc-mul}
use Rattle.std.proofs.lemmas.List.{drop-append-le, drop-drop, length-drop, take-append-le, take_all}
use Rattle.mq_join.specs.Kept.{PlaceRows, tuples_of}

pub tuples_long : (width count : ℕ) (places : List ℕ) → length (tuples_of width count places) ≡ count
tuples_long width zero places = refl
tuples_long width (suc count) places = let r = tuples_long width count (drop width places) in omega (arith, r)

no_places : (places : List ℕ) → length places ≡ 0 → places ≡ []
no_places [] e = refl
no_places (p ∷ places) e = absurd (omega (arith, e))

more_is : (width count : ℕ) (places tuple : List ℕ) → length places ≡ count * width → length tuple ≡ width
    → tuples_of width (suc count) (places ++ tuple) ≡ tuples_of width count places ++ tuple ∷ []
more_is width zero places tuple e f =
    let n : places ≡ [] = no_places places (omega (arith, e)) in
    (λ i. take width (n i ++ tuple) ∷ []) ∙ ap (λ t. t ∷ []) (take_all width tuple (omega (arith, f)))
more_is width (suc count) places tuple e f =
    let m = suc-mul count width in
    let long : width ≤ length places = omega (arith, e, m) in
    let rest : length (drop width places) ≡ count * width = omega (arith, e, m, length-drop width places) in
    (λ i. take-append-le width places tuple long i ∷ tuples_of width (suc count) (drop-append-le width places tuple long i))
    ∙ ap (λ ts. take width places ∷ ts) (more_is width count (drop width places) tuple rest f)

-- one tuple more
pub one_more : (width count counted : ℕ) (places tuple : List ℕ) → length places ≡ count * width → length tuple ≡ width → counted ≡ count + 1
    → tuples_of width counted (places ++ tuple) ≡ tuples_of width count places ++ tuple ∷ []
one_more width count counted places tuple e f g = let s : counted ≡ suc count = omega (arith, g) in ap (λ n. tuples_of width n (places ++ tuple)) s ∙ more_is width count places tuple e f

-- the tuple of a number
pub tuple_is : (width count at : ℕ) (places : List ℕ) → at < count → take width (drop (at * width) places) ≡ slice_index_or (tuples_of width count places) at []
tuple_is width zero at places h = absurd (omega (arith, h))
tuple_is width (suc count) zero places h = let z : 0 * width ≡ 0 = omega arith in ap (λ n. take width (drop n places)) z
tuple_is width (suc count) (suc at) places h =
    let m : suc at * width ≡ width + at * width = omega (arith, suc-mul at width) in
    ap (λ n. take width (drop n places)) m ∙ ap (take width) (sym (drop-drop (at * width) width places)) ∙ tuple_is width count at (drop width places) (omega (arith, h))

pub no_tuple : (width count at : ℕ) (places : List ℕ) → count ≤ at → [] ≡ slice_index_or (tuples_of width count places) at []
no_tuple width zero at places h = refl
no_tuple width (suc count) zero places h = absurd (omega (arith, h))
no_tuple width (suc count) (suc at) places h = no_tuple width count at (drop width places) (omega (arith, h))

-- it ends where the list does, or before
pub ends_within : (width count at : ℕ) → at < count → at * width + width ≤ count * width
ends_within width zero at h = absurd (omega (arith, h))
ends_within width (suc count) zero h = omega (arith, suc-mul count width)
ends_within width (suc count) (suc at) h = let r = ends_within width count at (omega (arith, h)) in omega (arith, r, suc-mul count width, suc-mul at width)
