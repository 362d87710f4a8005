-- Parts of the grammar as they are read: from behind their first word on, up to a sign that closes them, or a word before them.
use Rattle.std.specs.Prelude.{◌≡◌, ◌≢◌, ◌<◌, ◌≤◌, ℕ, Bool, List, ◌∷◌, length, Option, Some, None}
use Rattle.mq_values.specs.Number.{Number}
use Rattle.mq_values.specs.declared.operators.Mode.{Mode}
use Rattle.mq_lexer.specs.declared.sorts.Token.{Token}
use Rattle.mq_ast.specs.declared.expressions.E.{E}
use Rattle.mq_ast.specs.declared.parts.Head.{Head}
use Rattle.mq_ast.specs.declared.parts.Tail.{Tail}
use Rattle.mq_lexer.specs.declared.keywords.Keyword.{Keyword}
use Rattle.mq_ast.specs.declared.queries.LeftPlace.{LeftPlace}
use Rattle.mq_ast.specs.declared.queries.LeftTree.{LeftTree}
use Rattle.mq_ast.specs.declared.queries.ModelTree.{ModelTree}
use Rattle.mq_ast.specs.declared.queries.Opt.{Opt}
use Rattle.mq_ast.specs.declared.queries.Plain.{Plain}
use Rattle.mq_ast.specs.declared.queries.RefTree.{RefTree}
use Rattle.mq_ast.specs.declared.queries.RuleTree.{RuleTree}
use Rattle.mq_lexer.specs.declared.terminals.Terminal.{Terminal}
use Rattle.mq_ast.specs.declared.queries.Opt.TheVariants as opt
use Rattle.mq_lexer.specs.declared.terminals.Terminal.TheVariants as terminal
use Rattle.mq_lexer.specs.declared.keywords.Keyword.TheVariants as word
use Rattle.mq_ast.specs.Prelude.{HeadE, ItemE, IterateE, LeftE, LitE, MaybeMode, ModelE, Name, PlainE, RefE, ReturnE, SomeOf, Tok, Word}
use Rattle.mq_ast.specs.Prelude.{close_square, closer, item_of, opener, terminal_at}
use Rattle.mq_parse_words.specs.Reading.{from}

-- a {',' a} and this token
abbrev pub Closed : {A : Type 0} → Tok → (A → List Tok → List Tok → Type 0) → List A → List Tok → List Tok → Type 0
Closed k R xs from to = SomeOf R xs from (k ∷ to)

-- plain ')'
abbrev pub PlainEnd : Plain → List Tok → List Tok → Type 0
PlainEnd p from to = PlainE p from (closer ∷ to)

-- the name of an alias
pub data SomeName : Option (List ℕ) → List Tok → List Tok → Type 0 where
  some_name : {n : List ℕ} {to : List Tok} → SomeName (Some n) (Name n ∷ to) to

-- name [[AS] name], by its parts
abbrev pub TableE : List ℕ × Option (List ℕ) → List Tok → List Tok → Type 0
TableE p from to = ItemE None (item_of p.0 p.1 None) from to

-- the tokens from a place on up to another, further on
abbrev pub Leads : (List Tok → List Tok → Type 0) → List Token → ℕ → ℕ → Type 0
Leads R t at next = (at < next) × (next ≤ length t) × R (from t at) (from t next)

-- a word and JOIN
pub data JoinFront : Keyword → List Tok → List Tok → Type 0 where
  front_word : {k : Keyword} {to : List Tok} → JoinFront k (Word k ∷ Word word.Join ∷ to) to

-- a place behind FOR
abbrev pub ForPlace : LeftPlace → List Tok → List Tok → Type 0
ForPlace p from to = LitE p (Word word.For ∷ from) to

-- left ']'
abbrev pub LeftEnd : LeftTree → List Tok → List Tok → Type 0
LeftEnd l from to = LeftE l from (close_square ∷ to)

-- left ']', behind FOR '('
abbrev pub LeftTuples : LeftTree → List Tok → List Tok → Type 0
LeftTuples l from to = LeftEnd l (Word word.For ∷ opener ∷ from) to

-- FOR '(' stands here, and the other place is behind it
abbrev pub ForOpen : List Token → ℕ → ℕ → Type 0
ForOpen t at next = (at ≤ next) × (next ≤ length t) × (from t at ≡ Word word.For ∷ opener ∷ from t next)

abbrev pub NoForOpen : List Tok → Type 0
NoForOpen ts = (us : List Tok) → ts ≢ Word word.For ∷ opener ∷ us

-- a mode behind UPSERT
abbrev pub Upserts : Option Mode → List Tok → List Tok → Type 0
Upserts m from to = MaybeMode m (Word word.Upsert ∷ from) to

-- the option that begins with this word
abbrev pub option_of : Terminal → Option Opt
option_of (terminal.Word word.Ignore) = Some opt.IgnoreNav
option_of (terminal.Word word.Keep) = Some opt.KeepNav
option_of (terminal.Word word.Unique) = Some opt.UniqueDimension
option_of _ = None

-- the words of an option
abbrev pub first_word : Opt → Keyword
first_word opt.IgnoreNav = word.Ignore
first_word opt.KeepNav = word.Keep
first_word opt.UniqueDimension = word.Unique

abbrev pub second_word : Opt → Keyword
second_word opt.UniqueDimension = word.Dimension
second_word _ = word.Nav

-- the rest of RETURN
abbrev pub Returns : Bool → List Tok → List Tok → Type 0
Returns b from to = ReturnE b (Word word.Return ∷ from) to

-- the rest of REFERENCE
abbrev pub Refers : RefTree → List Tok → List Tok → Type 0
Refers r from to = RefE r (Word word.Reference ∷ from) to

-- ORDER, behind a word that says so
pub data AutoEnd : Bool → Bool → List Tok → List Tok → Type 0 where
  auto_end : {b : Bool} {to : List Tok} → AutoEnd b b (Word word.Order ∷ to) to

-- the rest of ITERATE
abbrev pub Iterates : Option Number × Option E → List Tok → List Tok → Type 0
Iterates p from to = IterateE p (Word word.Iterate ∷ from) to

-- the rest of RULES
abbrev pub Ruling : Head → List Tok → List Tok → Type 0
Ruling h from to = HeadE h (Word word.Rules ∷ from) to

-- the rest of MODEL
abbrev pub Modelling : ModelTree → List Tok → List Tok → Type 0
Modelling m from to = ModelE m (Word word.Model ∷ from) to

-- the options behind MEASURES, the head of the rules, and the rules
abbrev pub tail_of : List Opt → Head → List RuleTree → Tail
tail_of os h rs = record { opts = os; head = h; rules = rs }

-- parts with commas between them that never begin as a query does
abbrev pub NoQuery : {A : Type 0} → (A → List Tok → List Tok → Type 0) → Type 0
NoQuery {A} R = (xs : List A) (from to : List Tok) → SomeOf R xs from to → terminal_at from ≢ terminal.Word word.Select
