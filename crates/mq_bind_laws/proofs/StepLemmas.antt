-- Steps give what they gave where their parts do, or where the answer was that a name is unknown.
use Rattle.std.proofs.Common.{◌≡◌, inl, inr, ℕ, ◌+◌, List, [], ◌∷◌, ◌++◌, Bool, true, false, Result, Ok, Err, refl, sym, ap, ◌∙◌, subst}
use Rattle.mq_values.specs.declared.faults.Refused.{Refused}
use Rattle.mq_ir.specs.Results.{◌>>=◌, each_in_turn}
use Rattle.mq_bind_scopes.specs.Names.{Name}
use Rattle.mq_bind_scopes.specs.Refusals.{refused_where, unknown_name}
use Rattle.mq_bind_expr.specs.Steps.{each_behind, each_with, each_with_from}
use Rattle.mq_bind_laws.specs.FurtherTable.{StaysUnlessUnknown}

module _ (name : Name) where
  -- what was given is given
  pub still_given : {A : Type 0} (r s : Result A Refused) (x : A) → StaysUnlessUnknown name r s → r ≡ Ok x → s ≡ Ok x
  still_given {A = A} r s x (inl e) h = e ∙ h
  still_given {A = A} r s x (inr e) h = absurd (let n : ◌≡◌ {A = Result A Refused} (Ok x) (Err (unknown_name name)) = sym h ∙ e in cc)

  -- the same first step
  pub rest_stays : {A B : Type 0} (r : Result A Refused) (f g : A → Result B Refused) → ((x : A) → StaysUnlessUnknown name (f x) (g x)) → StaysUnlessUnknown name (r >>= f) (r >>= g)
  rest_stays (Ok x) f g stay = stay x
  rest_stays (Err fault) f g stay = inl refl

  pub then_stays : {A B : Type 0} (r s : Result A Refused) (f g : A → Result B Refused) → StaysUnlessUnknown name r s → ((x : A) → StaysUnlessUnknown name (f x) (g x)) → StaysUnlessUnknown name (r >>= f) (s >>= g)
  then_stays {A} {B} r s f g (inl e) stay = subst (λ (o : Result A Refused). StaysUnlessUnknown name (r >>= f) (o >>= g)) (sym e) (rest_stays r f g stay)
  then_stays {A} {B} r s f g (inr e) stay = inr (ap (λ (o : Result A Refused). o >>= f) e)

  -- the same rest
  pub first_stays : {A B : Type 0} (r s : Result A Refused) (f : A → Result B Refused) → StaysUnlessUnknown name r s → StaysUnlessUnknown name (r >>= f) (s >>= f)
  first_stays r s f h = then_stays r s f f h (λ x. inl refl)

  pub test_stays : {A : Type 0} (test : Bool) (refusal : Refused) (r s : Result A Refused) → StaysUnlessUnknown name r s → StaysUnlessUnknown name (refused_where test refusal r) (refused_where test refusal s)
  test_stays true refusal r s h = inl refl
  test_stays false refusal r s h = h

  pub turns_stay : {A S : Type 0} (f g : A → S → Result S Refused) → ((x : A) (s : S) → StaysUnlessUnknown name (f x s) (g x s)) → (xs : List A) (s : S) → StaysUnlessUnknown name (each_in_turn f xs s) (each_in_turn g xs s)
  turns_stay f g stay [] s = inl refl
  turns_stay f g stay (x ∷ xs) s = then_stays (f x s) (g x s) (each_in_turn f xs) (each_in_turn g xs) (stay x s) (turns_stay f g stay xs)

  pub behind_stay : {A B K : Type 0} (f g : List K → A → Result B Refused) (key : B → K) → ((earlier : List K) (x : A) → StaysUnlessUnknown name (f earlier x) (g earlier x)) → (xs : List A) (earlier : List K) → StaysUnlessUnknown name (each_behind f key earlier xs) (each_behind g key earlier xs)
  behind_stay f g key stay [] earlier = inl refl
  behind_stay f g key stay (x ∷ xs) earlier =
      then_stays (f earlier x) (g earlier x) _ _ (stay earlier x)
      (λ y. first_stays (each_behind f key (earlier ++ key y ∷ []) xs) (each_behind g key (earlier ++ key y ∷ []) xs) _ (behind_stay f g key stay xs (earlier ++ key y ∷ [])))

  pub with_stay : {A B S : Type 0} (f g : S → A → Result (B × S) Refused) → ((s : S) (x : A) → StaysUnlessUnknown name (f s x) (g s x)) → (xs : List A) (s : S) → StaysUnlessUnknown name (each_with f s xs) (each_with g s xs)
  with_stay f g stay [] s = inl refl
  with_stay f g stay (x ∷ xs) s =
      then_stays (f s x) (g s x) _ _ (stay s x) (λ y. first_stays (each_with f y.1 xs) (each_with g y.1 xs) _ (with_stay f g stay xs y.1))

  pub numbered_stay : {A B S : Type 0} (f g : ℕ → S → A → Result (B × S) Refused) → ((n : ℕ) (s : S) (x : A) → StaysUnlessUnknown name (f n s x) (g n s x)) → (xs : List A) (n : ℕ) (s : S) → StaysUnlessUnknown name (each_with_from f n s xs) (each_with_from g n s xs)
  numbered_stay f g stay [] n s = inl refl
  numbered_stay f g stay (x ∷ xs) n s =
      then_stays (f n s x) (g n s x) _ _ (stay n s x)
      (λ y. first_stays (each_with_from f (n + 1) y.1 xs) (each_with_from g (n + 1) y.1 xs) _ (numbered_stay f g stay xs (n + 1) y.1))
