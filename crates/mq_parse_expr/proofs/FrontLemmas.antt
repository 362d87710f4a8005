-- The fronts of the parts of an expression: what they are by their first token, and where they read nothing.
use Rattle.std.proofs.Common.{◌≡◌, ◌≢◌, ℕ, ◌+◌, ◌<◌, ◌≤◌, Bool, true, false, List, [], ◌∷◌, length, refl, sym, ap, ◌∙◌, subst, arith}
use Rattle.std.specs.Prelude.{Option, Some, None, MatchOption}
use Rattle.mq_values.specs.Number.{Number}
use Rattle.mq_values.specs.declared.value.Kind.{Kind}
use Rattle.mq_values.specs.declared.operators.Agg.TheVariants as agg
use Rattle.mq_lexer.specs.declared.sorts.Token.{Token}
use Rattle.mq_ast.specs.declared.expressions.E.{E}
use Rattle.mq_lexer.specs.declared.keywords.Keyword.{Keyword}
use Rattle.mq_lexer.specs.declared.keywords.Keyword.TheVariants as word
use Rattle.mq_values.specs.declared.operators.Func.{Func}
use Rattle.mq_lexer.specs.declared.terminals.Symbol.TheVariants as sign
use Rattle.mq_lexer.specs.declared.terminals.Terminal.{Terminal}
use Rattle.mq_lexer.specs.declared.terminals.Terminal.TheVariants as terminal
use Rattle.mq_ast.specs.Tokens.{Tok, Word, Aggregate, Sign, Name, Num, Text, Bad, terminal_at, rest_of, opener, closer, comma, star}
use Rattle.mq_ast.specs.declared.levels.TheConstants as level
use Rattle.mq_ast.specs.Calls.{call_of}
use Rattle.mq_ast.specs.Continuing.{loose, Stops, Not}
use Rattle.mq_ast.specs.GrammarLists.{NameE, name}
use Rattle.mq_ast.specs.GrammarNames.{KindE, DayE}
use Rattle.mq_ast.specs.GrammarExpression.{TestTail, tail_none, tail_null, tail_not_null, tail_present, tail_not_present, tail_any, prim_date, prim_call, prim_cv, prim_cv_name}
use Rattle.mq_ast.specs.Laws.{cut, none_some}
use Rattle.mq_ast.specs.Laws.{kind_same}
use Rattle.mq_parse_words.specs.declared.forms.Form.{Form}
use Rattle.mq_parse_words.specs.declared.forms.Form.TheVariants as form
use Rattle.mq_parse_words.specs.declared.forms.Tail.{Tail}
use Rattle.mq_parse_words.specs.declared.forms.Tail.TheVariants as tail
use Rattle.mq_parse_words.specs.declared.forms.IsTest.{IsTest}
use Rattle.mq_parse_words.specs.declared.forms.IsTest.TheVariants as is
use Rattle.mq_parse_words.specs.Reading.{from, Then, No, Anywhere}
use Rattle.mq_parse_words.specs.Names.{IntE, int}
use Rattle.mq_parse_words.specs.Forms.{FormInside, TailInside, form_of_word, form_of, tail_of, IsClosed, IsLeaf}
use Rattle.mq_parse_words.specs.Fronts.{Behind, Since, is_front, HeadsAll, NoAll, NoCells, AsKind, as_kind, ToScale, to_scale, NullOrPresent, asks_null, asks_present, IsTestE, asks_any, asks, asks_not, judged}
use Rattle.mq_parse_words.specs.TokenLemmas.{next}

-- what stands at the front of a form
abbrev pub FormFront : Form → List Tok → Type 0
FormFront form.Null ts = ts ≡ Word word.Null ∷ rest_of ts
FormFront form.Date ts = ts ≡ Word word.Date ∷ rest_of ts
FormFront form.Brackets ts = ts ≡ opener ∷ rest_of ts
FormFront (form.Aggregate g) ts = ts ≡ Aggregate g ∷ rest_of ts
FormFront form.Case ts = ts ≡ Word word.Case ∷ rest_of ts
FormFront form.Cast ts = ts ≡ Word word.Cast ∷ rest_of ts
FormFront (form.Call c) ts = ts ≡ Word c ∷ rest_of ts
FormFront form.Round ts = ts ≡ Word word.Round ∷ rest_of ts
FormFront form.Cv ts = ts ≡ Word word.Cv ∷ rest_of ts
FormFront form.Turn ts = ts ≡ Word word.IterationNumber ∷ rest_of ts
FormFront form.Number ts = terminal_at ts ≡ terminal.Number
FormFront form.Text ts = terminal_at ts ≡ terminal.Text
FormFront form.Name ts = terminal_at ts ≡ terminal.Name
FormFront form.Other ts = Unit {0}

its_word : (o : Option (Func × ℕ)) (k : Keyword) (ts : List Tok) → FormFront (form_of_word o k) (Word k ∷ ts)
its_word (Some _) k ts = refl
its_word None word.Null ts = refl
its_word None word.Date ts = refl
its_word None word.Case ts = refl
its_word None word.Cast ts = refl
its_word None word.Previous ts = refl
its_word None word.Presentv ts = refl
its_word None word.Presentnnv ts = refl
its_word None word.Round ts = refl
its_word None word.Cv ts = refl
its_word None word.IterationNumber ts = refl
its_word None _ ts = tt

its_front : (ts : List Tok) → FormFront (form_of (terminal_at ts)) ts
its_front [] = tt
its_front (Name _ ∷ ts) = refl
its_front (Num _ ∷ ts) = refl
its_front (Text _ ∷ ts) = refl
its_front (Bad ∷ ts) = tt
its_front (Sign sign.Open ∷ ts) = refl
its_front (Sign (sign.Cmp _) ∷ ts) = tt
its_front (Sign (sign.Sum _) ∷ ts) = tt
its_front (Sign (sign.Prod _) ∷ ts) = tt
its_front (Sign _ ∷ ts) = tt
its_front (Aggregate _ ∷ ts) = refl
its_front (Word k ∷ ts) = its_word (call_of k) k ts

pub form_front : (f : Form) (ts : List Tok) → f ≡ form_of (terminal_at ts) → FormFront f ts
form_front f ts e = let P : Form → Type 0 = λ x. FormFront x ts in subst P (sym e) (its_front ts)

-- the word of a call calls, wherever it stands
pub call_form : (k : Keyword) (ts : List Tok) → form.Call k ≡ form_of (terminal_at ts) → form_of (terminal.Word k) ≡ form.Call k
call_form k ts e =
    let f = form_front (form.Call k) ts e in
    let P : Terminal → Type 0 = λ x. form_of x ≡ form.Call k in subst P (ap terminal_at f) (sym e)

-- the same at a place, with the tokens behind it
pub at_front : (k : Tok) (t : List Token) (at : ℕ) → from t at ≡ k ∷ rest_of (from t at) → from t at ≡ k ∷ from t (at + 1)
at_front k t at e = e ∙ ap (λ r. k ∷ r) (next t at)

-- how a test goes on
abbrev pub TailFront : Tail → List Tok → Type 0
TailFront (tail.Cmp op) ts = ts ≡ Sign (sign.Cmp op) ∷ rest_of ts
TailFront tail.Between ts = ts ≡ Word word.Between ∷ rest_of ts
TailFront tail.In ts = ts ≡ Word word.In ∷ rest_of ts
TailFront tail.Is ts = ts ≡ Word word.Is ∷ rest_of ts
TailFront tail.Not ts = ts ≡ Word word.Not ∷ rest_of ts
TailFront tail.Done ts = Stops level.SUM ts → Stops level.TEST ts

its_tail : (ts : List Tok) → TailFront (tail_of (terminal_at ts)) ts
its_tail [] = λ s. omega arith
its_tail (Name _ ∷ ts) = λ s. omega arith
its_tail (Num _ ∷ ts) = λ s. omega arith
its_tail (Text _ ∷ ts) = λ s. omega arith
its_tail (Bad ∷ ts) = λ s. omega arith
its_tail (Sign (sign.Cmp _) ∷ ts) = refl
its_tail (Sign (sign.Sum _) ∷ ts) = λ s. omega arith
its_tail (Sign (sign.Prod _) ∷ ts) = λ s. omega arith
its_tail (Sign _ ∷ ts) = λ s. omega arith
its_tail (Word word.Between ∷ ts) = refl
its_tail (Word word.In ∷ ts) = refl
its_tail (Word word.Is ∷ ts) = refl
its_tail (Word word.Not ∷ ts) = refl
its_tail (Aggregate _ ∷ ts) = λ s. omega arith
its_tail (Word _ ∷ ts) = λ s. omega arith

pub tail_front : (f : Tail) (ts : List Tok) → f ≡ tail_of (terminal_at ts) → TailFront f ts
tail_front f ts e = let P : Tail → Type 0 = λ x. TailFront x ts in subst P (sym e) (its_tail ts)

pub leaf_left : (f : Form) → IsClosed f → (f ≡ form.Brackets → ⊥) → (f ≡ form.Case → ⊥) → (f ≡ form.Cast → ⊥) → (f ≡ form.Round → ⊥) → ((c : _) → f ≡ form.Call c → ⊥) → IsLeaf f
leaf_left form.Brackets l a b c d e = absurd (a refl)
leaf_left form.Case l a b c d e = absurd (b refl)
leaf_left form.Cast l a b c d e = absurd (c refl)
leaf_left form.Round l a b c d e = absurd (d refl)
leaf_left (form.Call k) l a b c d e = absurd (e k refl)
leaf_left form.Name l a b c d e = absurd l
leaf_left (form.Aggregate _) l a b c d e = absurd l
leaf_left form.Other l a b c d e = absurd l
leaf_left form.Number l a b c d e = tt
leaf_left form.Text l a b c d e = tt
leaf_left form.Null l a b c d e = tt
leaf_left form.Date l a b c d e = tt
leaf_left form.Cv l a b c d e = tt
leaf_left form.Turn l a b c d e = tt

-- the head of an aggregate
pub all_no_open : {ts : List Tok} → Not (terminal.Sign sign.Open) ts → NoAll agg.Count ts
all_no_open n us g e = n (ap terminal_at e)

pub all_no_star : {ts us : List Tok} → ts ≡ opener ∷ us → Not (terminal_at (star ∷ [])) us → NoAll agg.Count ts
all_no_star e n us g f = n (ap terminal_at (cut (sym e ∙ f)))

pub star_closed : (t : List Token) (at first second : ℕ) (r : Option ℕ) → Then opener t at first → Then star t first second → MatchOption r (Not (terminal.Sign sign.Close) (from t second)) (Then closer t second) → MatchOption r (NoAll agg.Count (from t at)) (HeadsAll agg.Count t at)
star_closed t at first second None o s n = λ us g h. n (ap terminal_at (cut (sym s.2 ∙ cut (sym o.2 ∙ h))))
star_closed t at first second (Some to) o s e = (refl, omega (arith, o.0, s.0, e.0), e.1, o.2 ∙ ap (λ r. opener ∷ r) (s.2 ∙ ap (λ r. star ∷ r) e.2))

pub cells_no_open : {ts : List Tok} → Not (terminal.Sign sign.Open) ts → NoCells ts
cells_no_open n m us e = absurd (n (ap terminal_at e))

pub square_none : {ts : List Tok} → Not (terminal.Sign sign.Close) ts → (us : List Tok) → ts ≡ closer ∷ us → Not (terminal.Sign sign.OpenSquare) us
square_none n us e = absurd (n (ap terminal_at e))

-- the end of a CAST
pub as_no_as : {ts : List Tok} → Not (terminal.Word word.As) ts → No AsKind Anywhere ts
as_no_as n k to (as_kind d) s = n refl

pub as_no_kind : {ts : List Tok} → No KindE Anywhere ts → No AsKind Anywhere (Word word.As ∷ ts)
as_no_kind h k to (as_kind d) s = h _ _ d tt

pub as_no_close : {x : Kind} {ts mid : List Tok} → KindE x ts mid → Not (terminal.Sign sign.Close) mid → No AsKind Anywhere (Word word.As ∷ ts)
as_no_close e n k to (as_kind d) s = let p = kind_same e d in n (ap terminal_at p.1)

-- the end of a ROUND
pub scale_no_comma : {ts : List Tok} → Not (terminal.Sign sign.Comma) ts → No ToScale Anywhere ts
scale_no_comma n k to (to_scale i) s = n refl

pub scale_no_int : {ts : List Tok} → No IntE Anywhere ts → No ToScale Anywhere (comma ∷ ts)
scale_no_int h k to (to_scale i) s = h _ _ (int i) tt

pub scale_no_close : {n : Number} {ts : List Tok} → Not (terminal.Sign sign.Close) ts → No ToScale Anywhere (comma ∷ Num n ∷ ts)
scale_no_close h k to (to_scale i) s = h refl

-- a date behind its word
pub date_no_day : {ts : List Tok} → No DayE Anywhere ts → No (Behind (Word word.Date)) Anywhere ts
date_no_day h a to (prim_date d) s = h _ _ d tt
date_no_day h a to (prim_call c d l) s = absurd (none_some c)

-- a CV behind its word
pub cv_no_open : {ts : List Tok} → Not (terminal.Sign sign.Open) ts → No (Behind (Word word.Cv)) Anywhere ts
cv_no_open n a to prim_cv s = n refl
cv_no_open n a to prim_cv_name s = n refl
cv_no_open n a to (prim_call c d l) s = absurd (none_some c)

pub cv_no_name : {ts : List Tok} → Not (terminal.Sign sign.Close) ts → No NameE Anywhere ts → No (Behind (Word word.Cv)) Anywhere (opener ∷ ts)
cv_no_name n h a to prim_cv s = n refl
cv_no_name n h a to prim_cv_name s = h _ _ name tt
cv_no_name n h a to (prim_call c d l) s = absurd (none_some c)

pub cv_no_close : {n : List ℕ} {ts : List Tok} → Not (terminal.Sign sign.Close) ts → No (Behind (Word word.Cv)) Anywhere (opener ∷ Name n ∷ ts)
cv_no_close h a to prim_cv_name s = h refl
cv_no_close h a to (prim_call c d l) s = absurd (none_some c)

-- what a test by IS asks
pub asks_no_word : {not : Bool} {ts : List Tok} → Not (terminal.Word word.Null) ts → Not (terminal.Word word.Present) ts → No (NullOrPresent not) Anywhere ts
asks_no_word m n a to asks_null s = m refl
asks_no_word m n a to asks_present s = n refl

pub is_no_not : {ts : List Tok} → No (NullOrPresent true) Anywhere ts → No IsTestE Anywhere (Word word.Not ∷ ts)
is_no_not h a to (asks d) s = elim d [ ]
is_no_not h a to (asks_not d) s = h _ _ d tt

pub is_no_plain : {ts : List Tok} → Not (terminal.Word word.Any) ts → Not (terminal.Word word.Not) ts → No (NullOrPresent false) Anywhere ts → No IsTestE Anywhere ts
is_no_plain m n h a to asks_any s = m refl
is_no_plain m n h a to (asks d) s = h _ _ d tt
is_no_plain m n h a to (asks_not d) s = n refl

asks_same : {x y : IsTest} {not : Bool} {from to to' : List Tok} → NullOrPresent not x from to → NullOrPresent not y from to' → (x ≡ y) × (to ≡ to')
asks_same asks_null asks_null = (refl, refl)
asks_same asks_present asks_present = (refl, refl)

is_same : {x y : IsTest} {from to to' : List Tok} → IsTestE x from to → IsTestE y from to' → (x ≡ y) × (to ≡ to')
is_same asks_any asks_any = (refl, refl)
is_same asks_any (asks d') = elim d' [ ]
is_same (asks d) asks_any = elim d [ ]
is_same (asks d) (asks d') = asks_same d d'
is_same (asks d) (asks_not d') = elim d [ ]
is_same (asks_not d) (asks d') = elim d' [ ]
is_same (asks_not d) (asks_not d') = asks_same d d'

tail_asks : {a b : E} {ts to : List Tok} → TestTail a b (Word word.Is ∷ ts) to → Stops level.TEST to → (x : IsTest) × IsTestE x ts to
tail_asks tail_none s = absurd (omega arith)
tail_asks tail_null s = (is.Null false, asks asks_null)
tail_asks tail_not_null s = (is.Null true, asks_not asks_null)
tail_asks tail_present s = (is.Present false, asks asks_present)
tail_asks tail_not_present s = (is.Present true, asks_not asks_present)
tail_asks tail_any s = (is.Any, asks_any)

pub asks_tail : {a : E} {x : IsTest} {ts to : List Tok} → IsTestE x ts to → TestTail a (judged x a) (Word word.Is ∷ ts) to
asks_tail asks_any = tail_any
asks_tail (asks asks_null) = tail_null
asks_tail (asks asks_present) = tail_present
asks_tail (asks_not asks_null) = tail_not_null
asks_tail (asks_not asks_present) = tail_not_present

pub is_no_test : {a : E} {ts : List Tok} → No IsTestE Anywhere ts → No (Since is_front a) (Stops level.TEST) ts
is_no_test h b to d s = let p = tail_asks d s in h p.0 to p.1 tt

pub is_no_end : {a : E} {x : IsTest} {ts : List Tok} (mid : List Tok) → IsTestE x ts mid → loose (terminal_at mid) ≤ level.TEST → No (Since is_front a) (Stops level.TEST) ts
is_no_end mid e l b to d s =
    let p = tail_asks d s in
    let q = is_same e p.1 in
    let k = ap (λ x. loose (terminal_at x)) q.1 in absurd (omega arith)

-- behind the last token nothing begins
form_of_inside : (f : Form) (t : List Token) (at : ℕ) → at < length t → FormInside f t at
form_of_inside form.Other t at k = tt
form_of_inside _ t at k = omega arith

tail_of_inside : (f : Tail) (t : List Token) (at : ℕ) → at < length t → TailInside f t at
tail_of_inside tail.Done t at k = tt
tail_of_inside _ t at k = omega arith

pub form_inside : (x : Terminal) (t : List Token) (at : ℕ) → (x ≢ terminal.Nothing → at < length t) → FormInside (form_of x) t at
form_inside terminal.Nothing t at h = tt
form_inside terminal.Bad t at h = tt
form_inside terminal.Name t at h = form_of_inside form.Name t at (h (λ e. cc))
form_inside terminal.Number t at h = form_of_inside form.Number t at (h (λ e. cc))
form_inside terminal.Text t at h = form_of_inside form.Text t at (h (λ e. cc))
form_inside (terminal.Sign s) t at h = form_of_inside (form_of (terminal.Sign s)) t at (h (λ e. cc))
form_inside (terminal.Aggregate g) t at h = form_of_inside (form.Aggregate g) t at (h (λ e. cc))
form_inside (terminal.Word w) t at h = form_of_inside (form_of (terminal.Word w)) t at (h (λ e. cc))

pub tail_inside : (x : Terminal) (t : List Token) (at : ℕ) → (x ≢ terminal.Nothing → at < length t) → TailInside (tail_of x) t at
tail_inside terminal.Nothing t at h = tt
tail_inside terminal.Bad t at h = tt
tail_inside terminal.Name t at h = tt
tail_inside terminal.Number t at h = tt
tail_inside terminal.Text t at h = tt
tail_inside (terminal.Sign s) t at h = tail_of_inside (tail_of (terminal.Sign s)) t at (h (λ e. cc))
tail_inside (terminal.Aggregate g) t at h = tt
tail_inside (terminal.Word w) t at h = tail_of_inside (tail_of (terminal.Word w)) t at (h (λ e. cc))
