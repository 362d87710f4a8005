-- What holds of each sign of the table holds of a text that is one of them.
use Rattle.std.proofs.Common.{◌≡◌, Bool, true, false, ◌&&◌, ◌||◌, List, [], ◌∷◌, refl, ap, ◌∙◌}
use Rattle.std.proofs.lemmas.Slice.Eq.{bytes_eq-Decides}
use Rattle.std.specs.List.{list_all, list_any}
use Rattle.std.specs.Str.{bytes_eq}
use Rattle.mq_lexer.specs.Fronts.{Text}

pub listed : (p : Text → Bool) (t : Text) (xs : List Text) → list_any (bytes_eq t) xs ≡ true → list_all p xs ≡ true → p t ≡ true
listed p t [] any all = absurd (cc)
listed p t (x ∷ xs) any all =
    elim (bytes_eq t x) as (λ q. (bytes_eq t x ≡ q) → (q || list_any (bytes_eq t) xs) ≡ true → (p x && list_all p xs) ≡ true → p t ≡ true) [
      | true ↦ λ e _ all. ap p ((bytes_eq-Decides t x).0 e) ∙ first (p x) (list_all p xs) all
      | false ↦ λ e any all. listed p t xs any (second (p x) (list_all p xs) all)
    ] refl any all
  where
    first : (q r : Bool) → (q && r) ≡ true → q ≡ true
    first true r e = refl
    first false r e = absurd (cc)

    second : (q r : Bool) → (q && r) ≡ true → r ≡ true
    second true r e = e
    second false r e = absurd (cc)
