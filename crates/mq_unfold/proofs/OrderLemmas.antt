-- The place that a row has for a dimension, as far as a loop has looked.
use Rattle.std.proofs.Common.{◌≡◌, ℕ, ◌+◌, ◌<◌, ◌≤◌, ◌==◌, min, Bool, true, false, List, [], ◌∷◌, length, drop, get_or, Option, Some, None, refl, sym, ap, ◌∙◌, arith}
use Rattle.std.specs.List.{find, zip}
use Rattle.std.specs.Prelude.{if◌then◌else◌}
use Rattle.std.specs.Option.{option_map_or}
use Rattle.std.proofs.lemmas.Bool.Decides.{nat_tests}
use Rattle.std.proofs.lemmas.List.{drop_all}
use Rattle.mq_values.specs.declared.value.Value.TheVariants as value
use Rattle.mq_ir.specs.declared.query.SinglePlace.{SinglePlace}
use Rattle.mq_ir.specs.declared.query.SinglePlace.TheVariants as place
use Rattle.mq_unfold.specs.LeftSides.{place_named}
use Rattle.mq_unfold.proofs.ListLemmas.{zip_done, zip_next}

abbrev is_named : ℕ → ℕ × SinglePlace → Bool
is_named dim named = named.0 == dim

same_test : (a b : ℕ) → a ≡ b → (a == b) ≡ true
same_test a b h = grind (arith, nat_tests)

other_test : (a b : ℕ) → (a ≡ b → ⊥) → (a == b) ≡ false
other_test a b h = grind (arith, nat_tests)

find_first : (dim : ℕ) (x : ℕ × SinglePlace) (xs : List (ℕ × SinglePlace)) (b : Bool) → is_named dim x ≡ b → find (is_named dim) (x ∷ xs) ≡ if b then Some x else find (is_named dim) xs
find_first dim x xs true h = rw h refl
find_first dim x xs false h = rw h refl

module _ (dims : List ℕ) (row : List SinglePlace) (dim i : ℕ) where
  pub named_here : (y : SinglePlace) → i < min (length dims) (length row) → y ≡ get_or row i y → find (is_named dim) (drop i (zip dims row)) ≡ find (is_named dim) (zip dims row) → get_or dims i 0 ≡ dim → place_named dims row dim ≡ y
  named_here y h e w t =
      ap (λ found. option_map_or (λ (named : ℕ × SinglePlace). named.1) found (place.At value.Null))
      (sym w ∙ ap (find (is_named dim)) (zip_next dims row i 0 y h e) ∙ find_first dim (get_or dims i 0, y) (drop (i + 1) (zip dims row)) true (same_test (get_or dims i 0) dim t))

  pub named_further : (y : SinglePlace) → i < min (length dims) (length row) → y ≡ get_or row i y → find (is_named dim) (drop i (zip dims row)) ≡ find (is_named dim) (zip dims row) → (get_or dims i 0 ≡ dim → ⊥) → find (is_named dim) (drop (i + 1) (zip dims row)) ≡ find (is_named dim) (zip dims row)
  named_further y h e w t =
      sym (ap (find (is_named dim)) (zip_next dims row i 0 y h e) ∙ find_first dim (get_or dims i 0, y) (drop (i + 1) (zip dims row)) false (other_test (get_or dims i 0) dim t)) ∙ w

  pub named_nowhere : min (length dims) (length row) ≤ i → find (is_named dim) (drop i (zip dims row)) ≡ find (is_named dim) (zip dims row) → place.At value.Null ≡ place_named dims row dim
  named_nowhere h w =
      ap (λ found. option_map_or (λ (named : ℕ × SinglePlace). named.1) found (place.At value.Null))
      (sym (ap (find (is_named dim)) (drop_all i (zip dims row) (zip_done dims row i h))) ∙ w)
