-- Words at the front of a line that stands in two parts.
use Rattle.std.proofs.Common.{◌≡◌, ℕ, Bool, true, false, List, [], ◌∷◌, ◌++◌, length, take, drop, min, refl, sym, ap, ◌∙◌}
use Rattle.std.specs.Prelude.{◌&&◌, nat_eq}
use Rattle.std.specs.List.{starts_with}
use Rattle.std.proofs.lemmas.List.{drop_min, take_min}

and_assoc : (a b c d : Bool) → b ≡ (c && d) → (a && b) ≡ ((a && c) && d)
and_assoc true b c d e = e
and_assoc false b c d e = refl

-- the first part begins with the front of the word, and the second with the rest
pub begins_over : (front back word : List ℕ)
    → starts_with nat_eq (front ++ back) word ≡ (starts_with nat_eq front (take (length front) word) && starts_with nat_eq back (drop (length front) word))
begins_over [] back word = refl
begins_over (f ∷ front) back [] = refl
begins_over (f ∷ front) back (w ∷ word) = and_assoc (nat_eq w f) _ _ _ (begins_over front back word)

-- the same, where the word is cut within its length
pub begins_in_parts : (front back word first second : List ℕ) → first ≡ take (min (length front) (length word)) word → second ≡ drop (min (length front) (length word)) word
    → starts_with nat_eq (front ++ back) word ≡ (starts_with nat_eq front first && starts_with nat_eq back second)
begins_in_parts front back word first second p q =
    begins_over front back word ∙ ap (λ w. starts_with nat_eq front w && starts_with nat_eq back (drop (length front) word)) (sym (p ∙ take_min (length front) word))
    ∙ ap (λ w. starts_with nat_eq front first && starts_with nat_eq back w) (sym (q ∙ drop_min (length front) word))
