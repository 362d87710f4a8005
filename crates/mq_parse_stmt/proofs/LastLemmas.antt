-- The parts with which statements end, each read up to the last token.
use Rattle.std.proofs.Common.{◌≡◌, ℕ, List, [], Result, Ok, Err, refl, subst, arith}
use Rattle.mq_values.specs.declared.memory.Fail.{Fail}
use Rattle.mq_values.specs.declared.faults.Refused.{Refused}
use Rattle.mq_lexer.specs.declared.sorts.Token.{Token}
use Rattle.mq_lexer.specs.declared.keywords.Keyword.{Keyword}
use Rattle.mq_ast.specs.declared.levels.TheConstants as level
use Rattle.mq_ast.specs.Prelude.{EndsList, NameE, QueryE, SomeOf, Stops, Tok, Tuple, WhereE}
use Rattle.mq_ast.specs.Laws.{Whatever, name_same, names_same, query_same, tuples_same, where_same}
use Rattle.mq_parse_words.specs.Names.{TextE, txt}
use Rattle.mq_parse_words.specs.Reading.{from, Anywhere, Fails, IsRead}
use Rattle.mq_parse_words.specs.StepLemmas.{exit, till, as_value}
use Rattle.mq_parse_stmt.specs.Pieces.{Body, Changes, Spot, WordName}
use Rattle.mq_parse_stmt.specs.Results.{Ended}
use Rattle.mq_parse_stmt.proofs.PieceLemmas.{body_same, changes_same, spot_same, word_named}

-- no tree of this part reads all of the tokens
abbrev pub NoneOf : {A : Type 0} → (A → List Tok → List Tok → Type 0) → List Tok → Type 0
NoneOf {A} R ts = (a : A) → R a ts [] → ⊥

-- the tree that reads all of them; SYNTAX where there is none
abbrev pub ReadsAll : {A : Type 0} → (A → List Tok → List Tok → Type 0) → List Tok → Result A (Fail Refused) → Type 0
ReadsAll R ts (Ok x) = R x ts []
ReadsAll R ts (Err f) = Fails f (NoneOf R ts)

-- such a part ends in one place only, and may end behind the last token
pub record MayBeLast {A : Type 0} (R : A → List Tok → List Tok → Type 0) (Stop : List Tok → Type 0) : Type 0 where
  pub same : (a b : A) (ts to to' : List Tok) → R a ts to → R b ts to' → Stop to → Stop to' → to ≡ to'
  pub stop : Stop []

pub read_all : {A : Type 0} {R : A → List Tok → List Tok → Type 0} {Stop : List Tok → Type 0} → MayBeLast R Stop → (t : List Token) (at : ℕ) (found : Result (A × ℕ) (Fail Refused)) (r : Result A (Fail Refused)) → IsRead R Stop t at found → Ended t found r → ReadsAll R (from t at) r
read_all {A} {R} m t at (Ok x) (Ok y) g e = as_value R e.0 (till R e.1 g.2)
read_all m t at (Ok x) (Err f) g e = exit f e (λ h a d. h (m.same x.0 a _ _ _ g.2 d g.3 m.stop))
read_all m t at (Err f) (Ok y) g e = absurd cc
read_all {A} {R} m t at (Err f) (Err f') g e =
    let p : f ≡ f' = cc in
    let Q : Fail Refused → Type 0 = λ z. Fails z (NoneOf R (from t at)) in subst Q p (exit f g (λ h a d. h a [] d m.stop))

pub last_name : MayBeLast NameE Anywhere
last_name = record { same = λ a b ts to to' d e s s'. (name_same a b ts to to' d e s s').1; stop = tt }

word_name_same : {k : Keyword} {m n : List ℕ} {ts to to' : List Tok} → WordName k m ts to → WordName k n ts to' → to ≡ to'
word_name_same d e = let p = word_named d in let q = word_named e in cc

pub last_word_name : (k : Keyword) → MayBeLast (WordName k) Anywhere
last_word_name k = record { same = λ a b ts to to' d e s s'. word_name_same d e; stop = tt }

text_same : {y z : List ℕ} {ts to to' : List Tok} → TextE y ts to → TextE z ts to' → to ≡ to'
text_same txt txt = refl

pub last_text : MayBeLast TextE Anywhere
last_text = record { same = λ a b ts to to' d e s s'. text_same d e; stop = tt }

pub last_body : MayBeLast Body Anywhere
last_body = record { same = λ a b ts to to' d e s s'. body_same d e; stop = tt }

pub last_query : MayBeLast QueryE (Stops level.QUERY)
last_query = record { same = λ a b ts to to' d e s s'. (query_same d e s s').1; stop = omega arith }

pub last_where : MayBeLast WhereE (Stops level.FILTERED)
last_where = record { same = λ a b ts to to' d e s s'. (where_same d e s s').1; stop = omega arith }

pub last_changes : MayBeLast Changes (Stops level.FILTERED)
last_changes = record { same = λ a b ts to to' d e s s'. changes_same d e s s'; stop = omega arith }

pub last_rows : MayBeLast (SomeOf Tuple) (EndsList Whatever)
last_rows = record { same = λ a b ts to to' d e s s'. (tuples_same d e s.1 s'.1).1; stop = (tt, λ e. cc) }

pub last_names : MayBeLast (SomeOf NameE) (EndsList Anywhere)
last_names = record { same = λ a b ts to to' d e s s'. (names_same d e s.1 s'.1).1; stop = (tt, λ e. cc) }

pub last_spot : MayBeLast Spot Anywhere
last_spot = record { same = λ a b ts to to' d e s s'. spot_same d e; stop = tt }
