-- A loop that takes a step for each item of a list, of which each may fail.
use Rattle.std.proofs.Common.{◌≡◌, List, [], ◌∷◌, ◌++◌, Result, Ok, Err, refl, sym, ap, ◌∙◌, append_assoc}
use Rattle.mq_ir.specs.Results.{◌>>=◌, each}

-- the items before `rest` gave ys
pub record Walked {A B E : Type 0} (f : A → Result B E) (all rest : List A) (ys : List B) : Type 0 where
  pub is : each f all ≡ (each f rest >>= (λ zs. Ok (ys ++ zs)))

moved : {B E : Type 0} (r : Result (List B) E) (ys : List B) (y : B) → ((r >>= (λ zs. Ok (y ∷ zs))) >>= (λ zs. Ok (ys ++ zs))) ≡ (r >>= (λ zs. Ok ((ys ++ y ∷ []) ++ zs)))
moved (Ok zs) ys y = ap Ok (sym (append_assoc ys (y ∷ []) zs))
moved (Err fault) ys y = refl

pub walk_next : {A B E : Type 0} (f : A → Result B E) (all before rest : List A) (ys after : List B) (x : A) (y : B) → before ≡ x ∷ rest → f x ≡ Ok y
    → after ≡ ys ++ y ∷ [] → Walked f all before ys → Walked f all rest after
walk_next f all before rest ys after x y e g a w = record {
  is =
      w.is
      ∙ ap (λ r. each f r >>= (λ zs. Ok (ys ++ zs))) e
      ∙ ap (λ o. (o >>= (λ y. each f rest >>= (λ ys. Ok (y ∷ ys)))) >>= (λ zs. Ok (ys ++ zs))) g
      ∙ moved (each f rest) ys y
      ∙ ap (λ l. each f rest >>= (λ zs. Ok (l ++ zs))) (sym a);
}
