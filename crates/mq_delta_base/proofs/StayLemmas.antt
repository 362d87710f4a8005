-- The places of a tuple, one after another.
use Rattle.std.proofs.Common.{◌≡◌, ℕ, zero, suc, ◌+◌, ◌<◌, ◌≤◌, Bool, true, false, ◌&&◌, List, [], ◌∷◌, ◌++◌, map, length, take, get_or, Option, Some, None, refl, sym, ap, ◌∙◌, arith}
use Rattle.std.specs.Prelude.{is_some, slice_index_or}
use Rattle.std.specs.List.{list_all, zip}
use Rattle.std.proofs.lemmas.List.{length-map, take_all}
use Rattle.std.proofs.lemmas.Slice.Zip.{length-zip}
use Rattle.mq_ir.specs.BaseRows.{Places}
use Rattle.mq_delta_base.specs.Moves.{has_place, moved_to, place_in, place_of, stays_whole}

Parts : Type 0
Parts = List (Bool × ℕ)

-- whether all of the first hold, and one more
all_more : (f : Bool × ℕ → Bool) (parts : List (Bool × ℕ)) (i : ℕ) → i < length parts → list_all f (take i parts) ≡ true → f (slice_index_or parts i (false, 0)) ≡ true
    → list_all f (take (i + 1) parts) ≡ true
all_more f [] i h a e = absurd (omega (arith, h))
all_more f (p ∷ parts) zero h a e = ap (λ b. b && true) e
all_more f (p ∷ parts) (suc i) h a e = by (f p) refl a (all_more f parts i (omega (arith, h)))
  where
    more : suc i + 1 ≡ suc (i + 1)
    more = omega arith

    by : (b : Bool) → f p ≡ b → (b && list_all f (take i parts)) ≡ true → (list_all f (take i parts) ≡ true → f (slice_index_or parts i (false, 0)) ≡ true → list_all f (take (i + 1) parts) ≡ true)
        → list_all f (take (suc i + 1) (p ∷ parts)) ≡ true
    by true b a r = ap (λ n. list_all f (take n (p ∷ parts))) more ∙ ap (λ c. c && list_all f (take (i + 1) parts)) b ∙ r a e
    by false b a r = absurd (cc)

not_all : (f : Bool × ℕ → Bool) (parts : List (Bool × ℕ)) (i : ℕ) → i < length parts → f (slice_index_or parts i (false, 0)) ≡ false → false ≡ list_all f parts
not_all f [] i h e = absurd (omega (arith, h))
not_all f (p ∷ parts) zero h e = sym (ap (λ b. b && list_all f parts) e)
not_all f (p ∷ parts) (suc i) h e = by (f p) (not_all f parts i (omega (arith, h)) e)
  where
    by : (b : Bool) → false ≡ list_all f parts → false ≡ (b && list_all f parts)
    by true r = r
    by false r = refl

map_more : (f : Bool × ℕ → ℕ) (parts : List (Bool × ℕ)) (i : ℕ) → i < length parts → map f (take i parts) ++ f (slice_index_or parts i (false, 0)) ∷ [] ≡ map f (take (i + 1) parts)
map_more f [] i h = absurd (omega (arith, h))
map_more f (p ∷ parts) zero h = refl
map_more f (p ∷ parts) (suc i) h =
    let e : suc i + 1 ≡ suc (i + 1) = omega arith in
    ap (λ l. f p ∷ l) (map_more f parts i (omega (arith, h))) ∙ ap (λ n. map f (take n (p ∷ parts))) (sym e)

-- the parts of a tuple
pub part_is : (changed : List Bool) (tuple : Places) (i : ℕ) → i < length tuple → length tuple ≡ length changed
    → slice_index_or (zip changed tuple) i (false, 0) ≡ (slice_index_or changed i false, slice_index_or tuple i 0)
part_is [] tuple i h e = absurd (omega (arith, h, e))
part_is (d ∷ changed) [] i h e = absurd (omega (arith, h))
part_is (d ∷ changed) (p ∷ tuple) zero h e = refl
part_is (d ∷ changed) (p ∷ tuple) (suc i) h e = part_is changed tuple i (omega (arith, h)) (omega (arith, e))

module _ (moved : List (Option ℕ)) (changed : List Bool) (tuple : Places) (as_many : length tuple ≡ length changed) where
  long : length (zip changed tuple) ≡ length tuple
  long = omega (arith, length-zip changed tuple, as_many)

  pub whole_more : (i : ℕ) (found : Option ℕ) → i < length tuple → list_all (has_place moved) (take i (zip changed tuple)) ≡ true → found ≡ place_in moved (slice_index_or (zip changed tuple) i (false, 0))
      → is_some found ≡ true → list_all (has_place moved) (take (i + 1) (zip changed tuple)) ≡ true
  whole_more i found h a f s = all_more (has_place moved) (zip changed tuple) i (omega (arith, h, long)) a (ap is_some (sym f) ∙ s)

  pub not_whole : (i : ℕ) (found : Option ℕ) → i < length tuple → found ≡ place_in moved (slice_index_or (zip changed tuple) i (false, 0)) → is_some found ≡ false → false ≡ stays_whole moved changed tuple
  not_whole i found h f s = not_all (has_place moved) (zip changed tuple) i (omega (arith, h, long)) (ap is_some (sym f) ∙ s)

  pub whole : (i : ℕ) → length tuple ≤ i → list_all (has_place moved) (take i (zip changed tuple)) ≡ true → true ≡ stays_whole moved changed tuple
  whole i h a = sym a ∙ ap (list_all (has_place moved)) (take_all i (zip changed tuple) (omega (arith, h, long)))

  pub moved_more : (i : ℕ) (done more : List ℕ) (place : ℕ) → i < length tuple → done ≡ map (place_of moved) (take i (zip changed tuple)) → place ≡ place_of moved (slice_index_or (zip changed tuple) i (false, 0))
      → more ≡ done ++ place ∷ [] → more ≡ map (place_of moved) (take (i + 1) (zip changed tuple))
  moved_more i done more place h d p m = m ∙ (λ j. d j ++ p j ∷ []) ∙ map_more (place_of moved) (zip changed tuple) i (omega (arith, h, long))

  pub moved_all : (i : ℕ) (done : List ℕ) → length tuple ≤ i → done ≡ map (place_of moved) (take i (zip changed tuple)) → done ≡ moved_to moved changed tuple
  moved_all i done h d = d ∙ ap (map (place_of moved)) (take_all i (zip changed tuple) (omega (arith, h, long)))

  pub moved_long : (i : ℕ) (done : List ℕ) → length tuple ≤ i → done ≡ map (place_of moved) (take i (zip changed tuple)) → length done ≡ length changed
  moved_long i done h d = let e : length done ≡ length (map (place_of moved) (zip changed tuple)) = ap length (moved_all i done h d) in omega (arith, e, length-map (zip changed tuple) (place_of moved), long, as_many)
