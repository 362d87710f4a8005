-- What a change reaches, in rounds that level a node. For any nodes.
use Rattle.std.proofs.Common.{◌≡◌, ℕ, zero, suc, Bool, true, false, ◌||◌, List, [], ◌∷◌, Option, Some, None, refl, sym, ap, ◌∙◌}
use Rattle.std.specs.Prelude.{is_none}
use Rattle.std.specs.List.{list_all, list_any}
use Rattle.std.proofs.lemmas.Bool.{and_parts}
use Rattle.mq_ir.specs.Rounds.{affected, every_look, levelled, some_look}

none_is : {A : Type 0} (o : Option A) → is_none o ≡ true → o ≡ None
none_is None h = refl
none_is (Some x) h = cc

or_false : (a : Bool) → (a || false) ≡ a
or_false true = refl
or_false false = refl

-- two tests agree on items that pass two others
pub any_alike : {N : Type 0} (f g p q : N → Bool) → ((t : N) → p t ≡ true → q t ≡ true → f t ≡ g t) → (xs : List N)
    → list_all p xs ≡ true → list_all q xs ≡ true → list_any f xs ≡ list_any g xs
any_alike f g p q same [] a b = refl
any_alike f g p q same (x ∷ xs) a b =
    let ha = and_parts (p x) (list_all p xs) a in
    let hb = and_parts (q x) (list_all q xs) b in
    λ i. same x ha.0 hb.0 i || any_alike f g p q same xs ha.1 hb.1 i

module _ {N : Type 0} (looks_of : N → Option (List N)) (seeds : N → Bool) where
  -- what is not assigned is reached where it is a seed
  pub unassigned_reached : (n : ℕ) (t : N) → looks_of t ≡ None → affected looks_of seeds n t ≡ seeds t
  unassigned_reached zero t e = refl
  unassigned_reached (suc n) t e = ap (λ o. seeds t || some_look (affected looks_of seeds n) o) e ∙ or_false (seeds t)

  next : (a b : ℕ) (t : N) → ((u : N) → levelled looks_of a u ≡ true → levelled looks_of b u ≡ true → affected looks_of seeds a u ≡ affected looks_of seeds b u)
      → (o : Option (List N)) → looks_of t ≡ o → every_look (levelled looks_of a) o ≡ true → every_look (levelled looks_of b) o ≡ true
      → affected looks_of seeds (suc a) t ≡ affected looks_of seeds (suc b) t
  next a b t earlier None e la lb = unassigned_reached (suc a) t e ∙ sym (unassigned_reached (suc b) t e)
  next a b t earlier (Some looks) e la lb =
      ap (λ o. seeds t || some_look (affected looks_of seeds a) o) e
      ∙ ap (λ r. seeds t || r) (any_alike (affected looks_of seeds a) (affected looks_of seeds b) (levelled looks_of a) (levelled looks_of b) earlier looks la lb)
      ∙ sym (ap (λ o. seeds t || some_look (affected looks_of seeds b) o) e)

  -- rounds that level a node reach it alike
  pub reached_alike : (a b : ℕ) (t : N) → levelled looks_of a t ≡ true → levelled looks_of b t ≡ true
      → affected looks_of seeds a t ≡ affected looks_of seeds b t
  reached_alike zero b t la lb = let e = none_is (looks_of t) la in unassigned_reached zero t e ∙ sym (unassigned_reached b t e)
  reached_alike (suc a) zero t la lb = let e = none_is (looks_of t) lb in unassigned_reached (suc a) t e ∙ sym (unassigned_reached zero t e)
  reached_alike (suc a) (suc b) t la lb =
      next a b t (reached_alike a b) (looks_of t) refl la lb
