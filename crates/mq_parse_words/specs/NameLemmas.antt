-- Where a name, a path, a kind or a number reads nothing, by its parts.
use Rattle.std.proofs.Common.{◌≡◌, ◌≢◌, ℕ, ◌<◌, ◌≤◌, List, ◌∷◌, refl, sym, ap, ◌∙◌, arith}
use Rattle.mq_values.specs.Number.{Number}
use Rattle.mq_lexer.specs.declared.sorts.Token.{Token}
use Rattle.mq_ast.specs.Spelling.{tok, tok_of}
use Rattle.mq_lexer.specs.declared.keywords.Keyword.TheVariants as word
use Rattle.mq_lexer.specs.declared.terminals.Symbol.TheVariants as sign
use Rattle.mq_lexer.specs.declared.terminals.Terminal.{Terminal}
use Rattle.mq_lexer.specs.declared.terminals.Terminal.TheVariants as terminal
use Rattle.mq_ast.specs.Tokens.{Tok, Word, Name, Num, terminal_at, opener, point}
use Rattle.mq_ast.specs.declared.levels.TheConstants as level
use Rattle.mq_ast.specs.Continuing.{loose, Stops, Not}
use Rattle.mq_ast.specs.GrammarLists.{NameE, name}
use Rattle.mq_ast.specs.GrammarNames.{PathE, path_one, path_two, KindE, kind_int, kind_decimal, kind_text, kind_date, IsInt}
use Rattle.mq_parse_words.specs.Reading.{No, Anywhere}
use Rattle.mq_parse_words.specs.Names.{IntE, int}

-- a path
pub stops_path : (s : Terminal) → s ≢ terminal.Sign sign.Point → level.PATH < loose s
stops_path (terminal.Sign sign.Point) n = absurd (n refl)
stops_path (terminal.Sign (sign.Cmp _)) n = omega arith
stops_path (terminal.Sign (sign.Sum _)) n = omega arith
stops_path (terminal.Sign (sign.Prod _)) n = omega arith
stops_path (terminal.Word word.Abs) n = omega arith
stops_path _ n = omega arith

pub path_no_name : {ts : List Tok} → No NameE Anywhere ts → No PathE (Stops level.PATH) ts
path_no_name h a to path_one s = h _ _ name tt
path_no_name h a to path_two s = h _ _ name tt

pub path_no_second : {n : List ℕ} {ts : List Tok} → No NameE Anywhere ts → No PathE (Stops level.PATH) (Name n ∷ point ∷ ts)
path_no_second h a to path_one s = absurd (omega arith)
path_no_second h a to path_two s = h _ _ name tt

pub path_no_end : {m n : List ℕ} {ts : List Tok} → loose (terminal_at ts) ≤ level.PATH
    → No PathE (Stops level.PATH) (Name m ∷ point ∷ Name n ∷ ts)
path_no_end l a to path_one s = absurd (omega arith)
path_no_end l a to path_two s = absurd (omega arith)

pub named : {n : List ℕ} {ts to : List Tok} → NameE n ts to → ts ≡ Name n ∷ to
named name = refl

pub numbered : {n : Number} {ts to : List Tok} → IntE n ts to → (ts ≡ Num n ∷ to) × IsInt n
numbered (int i) = (refl, i)

-- a kind
pub kind_no_word : {ts : List Tok} → Not (terminal.Word word.Int) ts → Not (terminal.Word word.Text) ts → Not (terminal.Word word.Date) ts
    → Not (terminal.Word word.Decimal) ts → No KindE Anywhere ts
kind_no_word i x d n a to kind_int s = i refl
kind_no_word i x d n a to (kind_decimal _) s = n refl
kind_no_word i x d n a to kind_text s = x refl
kind_no_word i x d n a to kind_date s = d refl

pub kind_no_open : {ts : List Tok} → Not (terminal.Sign sign.Open) ts → No KindE Anywhere (Word word.Decimal ∷ ts)
kind_no_open n a to (kind_decimal d) s = n refl

pub kind_no_int : {ts : List Tok} → No IntE Anywhere ts → No KindE Anywhere (Word word.Decimal ∷ opener ∷ ts)
kind_no_int h a to (kind_decimal d) s = h _ _ (int d) tt

pub kind_no_close : {n : Number} {ts : List Tok} → Not (terminal.Sign sign.Close) ts
    → No KindE Anywhere (Word word.Decimal ∷ opener ∷ Num n ∷ ts)
kind_no_close h a to (kind_decimal d) s = h refl

-- a token of another class is none of this one
other : (c q : Terminal) (z : List ℕ) (ts : List Tok) → (c ≡ q → ⊥) → (terminal.Bad ≡ q → ⊥) → terminal_at (tok c z ∷ ts) ≡ q → ⊥
other (terminal.Word k) q z ts n b = n
other (terminal.Aggregate g) q z ts n b = n
other (terminal.Sign s) q z ts n b = n
other terminal.Name q z ts n b = n
other terminal.Number q z ts n b = n
other terminal.Text q z ts n b = n
other terminal.Bad q z ts n b = n
other terminal.Nothing q z ts n b = b

token_no : (k : Token) (q : Terminal) {ts us : List Tok} → ts ≡ tok_of k ∷ us → (k.terminal ≡ q → ⊥) → (terminal.Bad ≡ q → ⊥) → Not q ts
token_no k q {ts} {us} e n b h = other k.terminal q k.text.now us n b (ap terminal_at (sym e) ∙ h)

pub token_no_name : (k : Token) {ts us : List Tok} → ts ≡ tok_of k ∷ us → (k.terminal ≡ terminal.Name → ⊥) → Not terminal.Name ts
token_no_name k e n = token_no k terminal.Name e n (λ h. cc)

pub token_no_number : (k : Token) {ts us : List Tok} → ts ≡ tok_of k ∷ us → (k.terminal ≡ terminal.Number → ⊥) → Not terminal.Number ts
token_no_number k e n = token_no k terminal.Number e n (λ h. cc)

pub token_no_text : (k : Token) {ts us : List Tok} → ts ≡ tok_of k ∷ us → (k.terminal ≡ terminal.Text → ⊥) → Not terminal.Text ts
token_no_text k e n = token_no k terminal.Text e n (λ h. cc)
