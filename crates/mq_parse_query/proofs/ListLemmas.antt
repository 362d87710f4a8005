-- Where lists of parts read nothing, by their parts.
use Rattle.std.proofs.Common.{◌≡◌, ℕ, ◌<◌, ◌≤◌, List, [], ◌∷◌, ◌++◌, length, Option, Some, None, Result, Ok, Err, refl, sym, ap, ◌∙◌, subst, arith}
use Rattle.std.specs.Result.{IsErrAnd}
use Rattle.mq_values.specs.declared.memory.Fail.{Fail}
use Rattle.mq_values.specs.declared.faults.Refused.{Refused}
use Rattle.mq_lexer.specs.declared.sorts.Token.{Token}
use Rattle.mq_ast.specs.Prelude.{EndsList, ManyOf, MoreOf, OneTree, SomeOf, Tok, comma, many_end, many_more, more_comma, more_end}
use Rattle.mq_ast.specs.Prelude.{some_of}
use Rattle.mq_ast.specs.Laws.{begin}
use Rattle.mq_parse_query.specs.Lists.{Turns}
use Rattle.mq_parse_words.specs.Reading.{from, No, Fails}
use Rattle.mq_parse_words.specs.StepLemmas.{SoFar, as_value, exit, push}

module _ {A : Type 0} (R : A → List Tok → List Tok → Type 0) (Stop : List Tok → Type 0) (one : OneTree R Stop) (before_comma : (ts : List Tok) → Stop (comma ∷ ts)) where
  more_stop : {xs : List A} {from to : List Tok} → MoreOf R xs from to → EndsList Stop to → Stop from
  more_stop more_end s = s.0
  more_stop (more_comma d ds) s = before_comma _

  pub list_no_first : {ts : List Tok} → No R Stop ts → No (SomeOf R) (EndsList Stop) ts
  list_no_first h a to (some_of d ds) s = h _ _ d (more_stop ds s)

  pub list_no_others : {x : A} {ts mid : List Tok} → R x ts mid → Stop mid → No (MoreOf R) (EndsList Stop) mid → No (SomeOf R) (EndsList Stop) ts
  list_no_others e r h a to (some_of d ds) s = let p = one _ _ _ _ _ e d r (more_stop ds s) in h _ _ (begin (MoreOf R) p.1 ds) s

  pub list_no_next : {ts : List Tok} → No R Stop ts → No (MoreOf R) (EndsList Stop) (comma ∷ ts)
  list_no_next h a to more_end s = s.1 refl
  list_no_next h a to (more_comma d ds) s = h _ _ d (more_stop ds s)

  pub list_no_more : {x : A} {ts mid : List Tok} → R x ts mid → Stop mid → No (MoreOf R) (EndsList Stop) mid → No (MoreOf R) (EndsList Stop) (comma ∷ ts)
  list_no_more e r h a to more_end s = s.1 refl
  list_no_more e r h a to (more_comma d ds) s = let p = one _ _ _ _ _ e d r (more_stop ds s) in h _ _ (begin (MoreOf R) p.1 ds) s

-- whatever stands here
abbrev pub Any : List Tok → Type 0
Any _ = Unit {0}

module _ {A : Type 0} (R : A → List Tok → List Tok → Type 0) (Stop End : List Tok → Type 0) (one : OneTree R Stop) (end_stops : (ts : List Tok) → End ts → Stop ts) (next_stops : (a : A) (ts to : List Tok) → R a ts to → Stop ts) (none_at_end : (a : A) (ts to : List Tok) → End ts → R a ts to → ⊥) where
  many_stop : {xs : List A} {from to : List Tok} → ManyOf R xs from to → End to → Stop from
  many_stop many_end s = end_stops _ s
  many_stop (many_more d ds) s = next_stops _ _ _ d

  many_no : {x : A} {ts mid : List Tok} → R x ts mid → Stop mid → No (ManyOf R) End mid → No (ManyOf R) End ts
  many_no e r h a to many_end s = none_at_end _ _ _ s e
  many_no e r h a to (many_more d ds) s = let p = one _ _ _ _ _ e d r (many_stop ds s) in h _ _ (begin (ManyOf R) p.1 ds) s

  -- one part more
  pub many_kept : (t : List Token) (start to next : ℕ) (found found2 : List A) (x : A) → SoFar (ManyOf R) Any End t start to found → R x (from t to) (from t next) → Stop (from t next) → to < next → next ≤ length t → found2 ≡ found ++ x ∷ [] → SoFar (ManyOf R) Any End t start next found2
  many_kept t start to next found found2 x kept d s low high f = record {
    low = let l = kept.low in omega (arith, l, low);
    high = high;
    stops = tt;
    ok = λ rest end ds. as_value (ManyOf R) (ap (λ xs. xs ++ rest) f ∙ push found x rest) (kept.ok (x ∷ rest) end (many_more d ds));
    no = λ h. kept.no (many_no d s h);
  }

-- the next part, and the end of the parts
pub turns_some : {A : Type 0} (R : A → List Tok → List Tok → Type 0) (Stop End : List Tok → Type 0) (t : List Token) (at : ℕ) (o : Option (A × ℕ)) (r : A × ℕ) → Turns R Stop End t at (Ok o) → o ≡ Some r → (at < r.1) × (r.1 ≤ length t) × R r.0 (from t at) (from t r.1) × Stop (from t r.1)
turns_some {A} R Stop End t at o r g e = let P : Option (A × ℕ) → Type 0 = λ o. Turns R Stop End t at (Ok o) in subst P e g

pub turns_none : {A : Type 0} (R : A → List Tok → List Tok → Type 0) (Stop End : List Tok → Type 0) (t : List Token) (at : ℕ) (o : Option (A × ℕ)) → Turns R Stop End t at (Ok o) → o ≡ None → End (from t at)
turns_none {A} R Stop End t at o g e = let P : Option (A × ℕ) → Type 0 = λ o. Turns R Stop End t at (Ok o) in subst P e g

-- an exit by `?` of a reader of the next part: the error, and why there are then no parts
pub quit_turn : {A P : Type 0} (R : A → List Tok → List Tok → Type 0) (Stop : List Tok → Type 0) {End : List Tok → Type 0} (t : List Token) (at : ℕ) (r : Result (Option (A × ℕ)) (Fail Refused)) (f : Fail Refused) → IsErrAnd r (λ y. y ≡ f) → Fails f P → (P → No (ManyOf R) End (from t at)) → Turns R Stop End t at r
quit_turn R Stop t at (Ok _) f e g h = absurd e
quit_turn R Stop {End} t at (Err y) f e g h = let Q : Fail Refused → Type 0 = λ z. Fails z (No (ManyOf R) End (from t at)) in subst Q (sym e) (exit f g h)
