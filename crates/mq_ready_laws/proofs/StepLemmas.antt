-- Steps that gave a value: what each of them gave, and what was asked on the way.
use Rattle.std.proofs.Common.{◌≡◌, ℕ, List, [], ◌∷◌, Bool, true, false, not, ◌==◌, Result, Ok, Err, refl, subst, arith}
use Rattle.std.specs.List.{All}
use Rattle.std.proofs.lemmas.Bool.Decides.{nat_tests}
use Rattle.std.proofs.lemmas.List.Elements.{All-cons, All-nil}
use Rattle.mq_values.specs.declared.faults.Refused.{Refused}
use Rattle.mq_ir.specs.Results.{◌>>=◌}
use Rattle.mq_bind_scopes.specs.Refusals.{refused_where}
use Rattle.mq_bind_expr.specs.Steps.{each_with}

pub record Went {A B : Type 0} (r : Result A Refused) (f : A → Result B Refused) (y : B) : Type 0 where
  pub value : A
  pub first : r ≡ Ok value
  pub after : f value ≡ Ok y

pub went : {A B : Type 0} (r : Result A Refused) (f : A → Result B Refused) (y : B) → (r >>= f) ≡ Ok y → Went r f y
went (Ok x) f y h = record { value = x; first = refl; after = h }
went (Err e) f y h = absurd cc

pub record Passed {A : Type 0} (test : Bool) (next : Result A Refused) (x : A) : Type 0 where
  pub holds_not : test ≡ false
  pub after : next ≡ Ok x

pub passed : {A : Type 0} (test : Bool) (refusal : Refused) (next : Result A Refused) (x : A) → refused_where test refusal next ≡ Ok x → Passed test next x
passed true refusal next x h = absurd cc
passed false refusal next x h = record { holds_not = refl; after = h }

pub ok_is : {A : Type 0} (x y : A) → ◌≡◌ {A = Result A Refused} (Ok x) (Ok y) → x ≡ y
ok_is x y h = cc

pub was_not : (b : Bool) → not b ≡ false → b ≡ true
was_not true h = refl
was_not false h = absurd cc

pub same_of : (n m : ℕ) → (n == m) ≡ true → n ≡ m
same_of n m h = grind (arith, nat_tests)

-- what each step gives
pub with_gives : {A B S : Type 0} (f : S → A → Result (B × S) Refused) (P : B → Type 0) → ((s : S) (x : A) (y : B × S) → f s x ≡ Ok y → P y.0)
    → (s : S) (xs : List A) (ys : List B × S) → each_with f s xs ≡ Ok ys → All P ys.0
with_gives {A} {B} {S} f P step s [] ys h = subst (λ (y : List B × S). All P y.0) (ok_is ([], s) ys h) (All-nil P)
with_gives {A} {B} {S} f P step s (x ∷ xs) ys h =
    let next : B × S → Result (List B × S) Refused = λ y. each_with f y.1 xs >>= (λ ys. Ok (y.0 ∷ ys.0, ys.1)) in
    let w = went (f s x) next ys h in
    let v = went (each_with f w.value.1 xs) (λ ys. Ok (w.value.0 ∷ ys.0, ys.1)) ys w.after in
    subst (λ (y : List B × S). All P y.0) (ok_is (w.value.0 ∷ v.value.0, v.value.1) ys v.after)
    (All-cons P w.value.0 v.value.0 (step s x w.value w.first) (with_gives f P step w.value.1 xs v.value v.first))
