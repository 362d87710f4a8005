-- The grammar of paths, kinds and dates. A relation holds of a tree, the tokens before it is read, and the tokens after.
use Rattle.std.specs.Prelude.{◌≡◌, ℕ, min, ℤ, pos, negsuc, List, ◌∷◌, Option, None, Some}
use Rattle.mq_values.specs.Calendar.{SpellsDay}
use Rattle.mq_values.specs.Number.{Number}
use Rattle.mq_values.specs.declared.value.Kind.{Kind}
use Rattle.mq_values.specs.declared.value.Kind.TheVariants as kind
use Rattle.mq_ast.specs.declared.expressions.Path.{Path}
use Rattle.mq_lexer.specs.declared.keywords.Keyword.TheVariants as word
use Rattle.mq_ast.specs.Tokens.{Tok, Word, Name, Num, Text, opener, closer, point}

abbrev pub path_of : Option (List ℕ) → List ℕ → Path
path_of first last = record { first = first; last = last }

-- path := name ['.' name]
pub data PathE : Path → List Tok → List Tok → Type 0 where
  path_one : {n : List ℕ} {to : List Tok} → PathE (path_of None n) (Name n ∷ to) to
  path_two : {m n : List ℕ} {to : List Tok} → PathE (path_of (Some m) n) (Name m ∷ point ∷ Name n ∷ to) to

-- int: a number without a point
abbrev pub IsInt : Number → Type 0
IsInt n = n.scale ≡ 0

-- the scale that an int gives, 255 where it is larger
abbrev pub nat_of : ℤ → ℕ
nat_of (pos n) = n
nat_of (negsuc _) = 0

abbrev pub scale_of : Number → ℕ
scale_of n = min (nat_of n.mant) 255

-- kind := INT | DECIMAL '(' int ')' | TEXT | DATE
pub data KindE : Kind → List Tok → List Tok → Type 0 where
  kind_int : {to : List Tok} → KindE kind.Int (Word word.Int ∷ to) to
  kind_decimal : {n : Number} {to : List Tok} →
      IsInt n → KindE (kind.Decimal (scale_of n)) (Word word.Decimal ∷ opener ∷ Num n ∷ closer ∷ to) to
  kind_text : {to : List Tok} → KindE kind.Text (Word word.Text ∷ to) to
  kind_date : {to : List Tok} → KindE kind.Date (Word word.Date ∷ to) to

-- dtxt: a text whose content is a date of the calendar, as it prints
pub data DayE : ℕ → List Tok → List Tok → Type 0 where
  dtxt : {day : ℕ} {z : List ℕ} {to : List Tok} → SpellsDay z (Some day) → DayE day (Text z ∷ to) to
