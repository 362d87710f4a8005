-- Names that are told apart.
use Rattle.std.proofs.Common.{◌≡◌, ℕ, List, [], ◌∷◌, Bool, true, false, ◌&&◌, refl, ap, ◌∙◌}
use Rattle.std.specs.Prelude.{nat_eq}
use Rattle.std.proofs.lemmas.Bool.{eqb-true}
use Rattle.mq_ir.specs.Tables.{is_name}

pub name_is : (a b : List ℕ) → is_name a b ≡ true → a ≡ b
name_is [] [] h = refl
name_is [] (y ∷ ys) h = absurd (cc)
name_is (x ∷ xs) [] h = absurd (cc)
name_is (x ∷ xs) (y ∷ ys) h = by (nat_eq x y) refl (name_is xs ys) h
  where
    by : (b : Bool) → nat_eq x y ≡ b → (is_name xs ys ≡ true → xs ≡ ys) → (b && is_name xs ys) ≡ true → x ∷ xs ≡ y ∷ ys
    by true e k g = let p : x ≡ y = eqb-true x y e in let q : xs ≡ ys = k g in cc
    by false e k g = absurd (cc)

-- two names that are both a third one
pub one_name : (a b n : List ℕ) → is_name a n ≡ true → is_name b n ≡ true → is_name a b ≡ true
one_name a b n p q = ap (is_name a) (name_is b n q) ∙ p
