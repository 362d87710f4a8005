-- Words by their spelling, in capital or small letters, the reserved words, names and signs.
use Rattle.std.specs.Prelude.{ℕ, Bool, true, false, not, ◌&&◌, if◌then◌else◌, ◌==◌}
use Rattle.std.specs.Prelude.{List, [], ◌∷◌, map, filter, slice_index, Option, Some, None, is_some}
use Rattle.std.specs.Str.{bytes_eq, str_to_ascii_uppercase}
use Rattle.mq_lexer.specs.declared.sorts.Sort.{Sort}
use Rattle.mq_lexer.specs.declared.sorts.Sort.TheVariants as sort
use Rattle.mq_lexer.specs.declared.keywords.TheConstants.{RESERVED}
use Rattle.mq_lexer.specs.declared.terminals.Terminal.{Terminal}
use Rattle.mq_lexer.specs.Lexemes.{Lexeme}
use Rattle.mq_lexer.specs.Fronts.{Text}

-- ASCII letters as capital letters
abbrev pub folded : Text → Text
folded z = str_to_ascii_uppercase z

abbrev pub has_word_sort : Sort → Bool
has_word_sort sort.Word = true
has_word_sort _ = false

abbrev pub has_sign_sort : Sort → Bool
has_sign_sort sort.Sign = true
has_sign_sort _ = false

abbrev pub same_word : Text → Text → Bool
same_word a b = bytes_eq (folded a) (folded b)

-- the token is this word
abbrev pub is_word : Lexeme → Text → Bool
is_word t word = has_word_sort t.sort && same_word t.text word

-- the token is this sign
abbrev pub is_sign : Lexeme → Text → Bool
is_sign t sign = has_sign_sort t.sort && bytes_eq t.text sign

-- what stands beside this spelling in a table
abbrev pub spelled : {A : Type 0} → Text → List (Text × A) → Option A
spelled z [] = None
spelled z (w ∷ ws) = if bytes_eq w.0 z then Some w.1 else spelled z ws

-- the words that are never names, each with what it is for the grammar
unfoldable pub reserved : List (Text × Terminal)
reserved = map (λ w. (w.0.now, w.1)) RESERVED

-- those that begin with a letter
unfoldable pub row : ℕ → List (Text × Terminal)
row first = filter (λ w. slice_index w.0 0 == first) reserved

-- what the reserved word is that is spelled so, in capital or small letters
abbrev pub reserved_of : Text → Option Terminal
reserved_of z = spelled (folded z) reserved

abbrev pub is_reserved : Text → Bool
is_reserved z = is_some (reserved_of z)

-- the token is a name: a word that is not reserved
abbrev pub is_name : Lexeme → Bool
is_name t = has_word_sort t.sort && not (is_reserved t.text)
