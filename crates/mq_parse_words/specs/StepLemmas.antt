-- What the exits and the ends of the readers share.
use Rattle.std.proofs.Common.{◌≡◌, ℕ, ◌≤◌, List, [], ◌∷◌, ◌++◌, length, Result, Ok, Err, refl, sym, ap, ◌∙◌, subst, arith}
use Rattle.std.specs.Result.{IsErrAnd}
use Rattle.mq_values.specs.declared.memory.Fail.{Fail}
use Rattle.mq_values.specs.declared.memory.Fail.TheVariants as fail
use Rattle.mq_values.specs.declared.faults.Refused.{Refused}
use Rattle.mq_values.specs.declared.faults.Refused.TheVariants as refused
use Rattle.mq_lexer.specs.declared.sorts.Token.{Token}
use Rattle.mq_ast.specs.Tokens.{Tok}
use Rattle.mq_parse_words.specs.Reading.{from, Then, No, Fails, IsRead}

-- an exit by `?`
pub exit : {P Q : Type 0} (f : Fail Refused) → Fails f P → (P → Q) → Fails f Q
exit fail.Memory g h = tt
exit (fail.Cause refused.Syntax) g h = h g
exit (fail.Cause _) g h = g

-- an exit by `?` of a reader: the error of the part, and why there is then no whole
pub quit : {A P : Type 0} (R : A → List Tok → List Tok → Type 0) {Stop : List Tok → Type 0} (t : List Token) (at : ℕ)
    (r : Result (A × ℕ) (Fail Refused)) (f : Fail Refused) → IsErrAnd r (λ y. y ≡ f) → Fails f P
    → (P → No R Stop (from t at)) → IsRead R Stop t at r
quit R t at (Ok _) f e g h = absurd e
quit R {Stop} t at (Err y) f e g h = let Q : Fail Refused → Type 0 = λ z. Fails z (No R Stop (from t at)) in subst Q (sym e) (exit f g h)

-- a fact about tokens that are these
pub here : {A : Type 0} (R : A → List Tok → List Tok → Type 0) (Stop : List Tok → Type 0) {ts us : List Tok} → ts ≡ us
    → No R Stop us → No R Stop ts
here R Stop e h a to d s = let P : List Tok → Type 0 = λ m. R a m to in h a to (subst P e d) s

pub there : {A : Type 0} (R : A → List Tok → List Tok → Type 0) {a : A} {ts us to : List Tok} → ts ≡ us → R a us to → R a ts to
there R {a} {ts} {us} {to} e d = let P : List Tok → Type 0 = λ m. R a m to in subst P (sym e) d

pub till : {A : Type 0} (R : A → List Tok → List Tok → Type 0) {a : A} {ts us vs : List Tok} → us ≡ vs → R a ts us → R a ts vs
till R {a} {ts} e d = let P : List Tok → Type 0 = λ m. R a ts m in subst P e d

pub as_value : {A : Type 0} (R : A → List Tok → List Tok → Type 0) {a b : A} {ts to : List Tok} → a ≡ b → R b ts to → R a ts to
as_value {A} R {a} {b} {ts} {to} e d = let P : A → Type 0 = λ x. R x ts to in subst P (sym e) d

-- what one reader gives, as what another is to give
pub gives_as : {A : Type 0} (R S : A → List Tok → List Tok → Type 0) (Stop Stop' : List Tok → Type 0) (t : List Token) (at next : ℕ)
    (r : Result (A × ℕ) (Fail Refused)) → at ≤ next
    → ((a : A) (to : List Tok) → S a (from t next) to → Stop' to → R a (from t at) to × Stop to)
    → (No S Stop' (from t next) → No R Stop (from t at)) → IsRead S Stop' t next r → IsRead R Stop t at r
gives_as R S Stop Stop' t at next (Ok r) l f h g = let p = f r.0 (from t r.1) g.2 g.3 in (omega (arith, l, g.0), g.1, p.0, p.1)
gives_as R S Stop Stop' t at next (Err fail.Memory) l f h g = tt
gives_as R S Stop Stop' t at next (Err (fail.Cause refused.Syntax)) l f h g = h g
gives_as R S Stop Stop' t at next (Err (fail.Cause _)) l f h g = g

-- the same tree, read from behind its first tokens on
pub fronted : {A : Type 0} (R : A → List Tok → List Tok → Type 0) (Stop : List Tok → Type 0) (front : List Tok → List Tok)
    (t : List Token) (at next : ℕ) (r : Result (A × ℕ) (Fail Refused)) → at ≤ next
    → from t at ≡ front (from t next) → IsRead (λ a us to. R a (front us) to) Stop t next r → IsRead R Stop t at r
fronted R Stop front t at next r l e g =
    gives_as R (λ a us to. R a (front us) to) Stop Stop t at next r l (λ a to d s. (there R e d, s)) (λ h. here R Stop e h) g

-- the members found, and the rest behind them
pub record SoFar {X : Type 0} (R : List X → List Tok → List Tok → Type 0) (Before Stop : List Tok → Type 0)
    (t : List Token) (start to : ℕ) (found : List X) : Type 0 where
  pub low : start ≤ to
  pub high : to ≤ length t
  pub stops : Before (from t to)
  pub ok : (rest : List X) (end : List Tok) → R rest (from t to) end → R (found ++ rest) (from t start) end
  pub no : No R Stop (from t to) → No R Stop (from t start)

pub push : {X : Type 0} (found : List X) (e : X) (rest : List X) → (found ++ e ∷ []) ++ rest ≡ found ++ e ∷ rest
push [] e rest = refl
push (x ∷ found) e rest = ap (λ r. x ∷ r) (push found e rest)

pub none : {X : Type 0} (found : List X) → found ++ [] ≡ found
none [] = refl
none (x ∷ found) = ap (λ r. x ∷ r) (none found)

module _ {X : Type 0} (R : List X → List Tok → List Tok → Type 0) (Before Stop : List Tok → Type 0)
    (t : List Token) (start to : ℕ) (found : List X) (kept : SoFar R Before Stop t start to found) where
  -- one member more, behind its token
  pub one_more : (k : Tok) (behind : ℕ) → Then k t to behind → (x : X) (next : ℕ) (found2 : List X)
      → ((rest : List X) (end : List Tok) → R rest (from t next) end → R (x ∷ rest) (k ∷ from t behind) end)
      → (No R Stop (from t next) → No R Stop (k ∷ from t behind))
      → Before (from t next) → behind ≤ next → next ≤ length t → found2 ≡ found ++ x ∷ [] → SoFar R Before Stop t start next found2
  one_more k behind is x next found2 more nope s low high f = record {
    low = let l = kept.low in omega (arith, is.0);
    high = high;
    stops = s;
    ok = λ rest end d. as_value R (ap (λ xs. xs ++ rest) f ∙ push found x rest) (kept.ok (x ∷ rest) end (there R is.2 (more rest end d)));
    no = λ h. kept.no (here R Stop is.2 (nope h));
  }

  pub cut_short : (k : Tok) (behind : ℕ) → Then k t to behind → No R Stop (k ∷ from t behind) → No R Stop (from t start)
  cut_short k behind is h = kept.no (here R Stop is.2 h)

  pub all_found : R [] (from t to) (from t to) → Stop (from t to)
      → (start ≤ to) × (to ≤ length t) × R found (from t start) (from t to) × Stop (from t to)
  all_found d s = (kept.low, kept.high, as_value R (sym (none found)) (kept.ok [] (from t to) d), s)
