-- What kind of expression or test a token begins, and what stands there then.
use Rattle.std.specs.Prelude.{ℕ, ◌+◌, ◌≤◌, ◌==◌, if◌then◌else◌, length, List, [], ◌∷◌, Option, Some, None}
use Rattle.mq_values.specs.declared.operators.Func.{Func}
use Rattle.mq_lexer.specs.declared.sorts.Token.{Token}
use Rattle.mq_ast.specs.declared.expressions.E.{E}
use Rattle.mq_ast.specs.declared.expressions.E.TheVariants as e
use Rattle.mq_lexer.specs.declared.keywords.Keyword.{Keyword}
use Rattle.mq_lexer.specs.declared.keywords.Keyword.TheVariants as word
use Rattle.mq_lexer.specs.declared.terminals.Symbol.TheVariants as sign
use Rattle.mq_lexer.specs.declared.terminals.Terminal.{Terminal}
use Rattle.mq_lexer.specs.declared.terminals.Terminal.TheVariants as terminal
use Rattle.mq_ast.specs.Calls.{call_of}
use Rattle.mq_parse_words.specs.declared.forms.Form.{Form}
use Rattle.mq_parse_words.specs.declared.forms.Form.TheVariants as form
use Rattle.mq_parse_words.specs.declared.forms.Tail.{Tail}
use Rattle.mq_parse_words.specs.declared.forms.Tail.TheVariants as tail

-- what a word begins, where it calls this function of so many arguments, or none
abbrev pub form_of_word : Option (Func × ℕ) → Keyword → Form
form_of_word (Some _) k = form.Call k
form_of_word None word.Null = form.Null
form_of_word None word.Date = form.Date
form_of_word None word.Case = form.Case
form_of_word None word.Cast = form.Cast
form_of_word None word.Previous = form.Call word.Previous
form_of_word None word.Presentv = form.Call word.Presentv
form_of_word None word.Presentnnv = form.Call word.Presentnnv
form_of_word None word.Round = form.Round
form_of_word None word.Cv = form.Cv
form_of_word None word.IterationNumber = form.Turn
form_of_word None _ = form.Other

abbrev pub form_of : Terminal → Form
form_of terminal.Name = form.Name
form_of terminal.Number = form.Number
form_of terminal.Text = form.Text
form_of (terminal.Sign sign.Open) = form.Brackets
form_of (terminal.Aggregate g) = form.Aggregate g
form_of (terminal.Word k) = form_of_word (call_of k) k
form_of _ = form.Other

abbrev pub tail_of : Terminal → Tail
tail_of (terminal.Sign (sign.Cmp op)) = tail.Cmp op
tail_of (terminal.Word word.Between) = tail.Between
tail_of (terminal.Word word.In) = tail.In
tail_of (terminal.Word word.Is) = tail.Is
tail_of (terminal.Word word.Not) = tail.Not
tail_of _ = tail.Done

-- what PREVIOUS, PRESENTV and PRESENTNNV make of so many arguments, where they take so many
abbrev pub asked : Keyword → List E → Option E
asked word.Previous (a ∷ []) = Some (e.Previous a)
asked word.Presentv (a ∷ b ∷ c ∷ []) = Some (e.PresentV (a ∷ b ∷ c ∷ []))
asked word.Presentnnv (a ∷ b ∷ c ∷ []) = Some (e.PresentNnv (a ∷ b ∷ c ∷ []))
asked _ _ = None

abbrev pub called_by : Option (Func × ℕ) → Keyword → List E → Option E
called_by (Some f) _ xs = if length xs == f.1 then Some (e.Call f.0 xs) else None
called_by None k xs = asked k xs

-- the call of so many arguments, where it takes so many
abbrev pub called : Keyword → List E → Option E
called k xs = called_by (call_of k) k xs

-- a form that neither a name nor an aggregate is, and one that holds no expression
abbrev pub IsClosed : Form → Type 0
IsClosed form.Name = ⊥
IsClosed (form.Aggregate _) = ⊥
IsClosed form.Other = ⊥
IsClosed _ = Unit {0}

abbrev pub IsLeaf : Form → Type 0
IsLeaf form.Number = Unit {0}
IsLeaf form.Text = Unit {0}
IsLeaf form.Null = Unit {0}
IsLeaf form.Date = Unit {0}
IsLeaf form.Cv = Unit {0}
IsLeaf form.Turn = Unit {0}
IsLeaf _ = ⊥

-- a token stands at a place where a form or the rest of a test begins
abbrev pub FormInside : Form → List Token → ℕ → Type 0
FormInside form.Other t at = Unit {0}
FormInside _ t at = at + 1 ≤ length t

abbrev pub TailInside : Tail → List Token → ℕ → Type 0
TailInside tail.Done t at = Unit {0}
TailInside _ t at = at + 1 ≤ length t
