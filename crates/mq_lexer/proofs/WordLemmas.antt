-- Words by their spelling.
use Rattle.std.proofs.Common.{◌≡◌, ℕ, Bool, true, List, [], ◌∷◌, map, IsTrue, ◌↔◌, refl, ap, sym, ◌∙◌, arith}
use Rattle.std.proofs.lemmas.Bool.Decides.{nat_tests, same_from_decides}
use Rattle.std.proofs.lemmas.Slice.Eq.{bytes_eq-Decides}
use Rattle.std.specs.Char.{to_ascii_lowercase, to_ascii_uppercase}
use Rattle.std.specs.Prelude.{◌==◌, slice_index}
use Rattle.std.specs.List.{filter}
use Rattle.std.specs.Str.{bytes_eq}
use Rattle.mq_lexer.specs.Fronts.{Text}
use Rattle.mq_lexer.specs.Words.{folded, same_word, spelled, reserved, row, reserved_of}

upper-lower : (b : ℕ) → to_ascii_uppercase (to_ascii_lowercase b) ≡ to_ascii_uppercase b
upper-lower b = grind (arith, nat_tests)

lower-upper : (b : ℕ) → to_ascii_lowercase (to_ascii_uppercase b) ≡ to_ascii_lowercase b
lower-upper b = grind (arith, nat_tests)

uppers : (z : Text) → map to_ascii_uppercase (map to_ascii_lowercase z) ≡ map to_ascii_uppercase z
uppers [] = refl
uppers (b ∷ z) = rw (upper-lower b, uppers z) refl

lowers : (z : Text) → map to_ascii_lowercase (map to_ascii_uppercase z) ≡ map to_ascii_lowercase z
lowers [] = refl
lowers (b ∷ z) = rw (lower-upper b, lowers z) refl

-- small letters tell words apart as capital letters do
pub same_folded : (r : Bool) (a b : Text) → (IsTrue r ↔ (map to_ascii_lowercase a ≡ map to_ascii_lowercase b)) → r ≡ same_word a b
same_folded r a b is =
    same_from_decides r (same_word a b) ((λ t. up (is.0 (to_true r t))), (λ e. from_true r (is.1 (down e)))) (bytes_eq-Decides (folded a) (folded b))
  where
    up : map to_ascii_lowercase a ≡ map to_ascii_lowercase b → folded a ≡ folded b
    up e = sym (uppers a) ∙ ap (map to_ascii_uppercase) e ∙ uppers b

    down : folded a ≡ folded b → map to_ascii_lowercase a ≡ map to_ascii_lowercase b
    down e = sym (lowers a) ∙ ap (map to_ascii_lowercase) e ∙ lowers b

    to_true : (r : Bool) → r ≡ true → IsTrue r
    to_true r e = e

    from_true : (r : Bool) → IsTrue r → r ≡ true
    from_true r e = e

-- the words of one first letter are enough
first_same : (w z : Text) → bytes_eq w z ≡ true → (slice_index w 0 == slice_index z 0) ≡ true
first_same [] [] e = refl
first_same [] (_ ∷ _) e = cc
first_same (_ ∷ _) [] e = cc
first_same (a ∷ w) (b ∷ z) e = grind (arith, nat_tests, e)

spelled_row : {A : Type 0} (z : Text) (ws : List (Text × A)) → spelled z (filter (λ w. slice_index w.0 0 == slice_index z 0) ws) ≡ spelled z ws
spelled_row z [] = refl
spelled_row z (w ∷ ws) = let h = spelled_row z ws in let f = first_same w.0 z in grind (arith, h, f)

pub row_enough : (z : Text) (b : ℕ) → b ≡ slice_index (folded z) 0 → spelled (folded z) (row b) ≡ reserved_of z
unfolding row
row_enough z b e = rw e (spelled_row (folded z) reserved)
