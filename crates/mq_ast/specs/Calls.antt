-- The functions that are called by a word of their own, and how many expressions stand between their brackets.
use Rattle.std.specs.Prelude.{ℕ, Option, None, Some}
use Rattle.mq_lexer.specs.declared.keywords.Keyword.{Keyword}
use Rattle.mq_lexer.specs.declared.keywords.Keyword.TheVariants as word
use Rattle.mq_values.specs.declared.operators.Func.{Func}
use Rattle.mq_values.specs.declared.operators.Func.TheVariants as func

-- ROUND has a production of its own, since a number stands there that is no expression
abbrev pub call_of : Keyword → Option (Func × ℕ)
call_of word.Abs = Some (func.Abs, 1)
call_of word.Floor = Some (func.Floor, 1)
call_of word.Length = Some (func.Length, 1)
call_of word.Nvl = Some (func.Nvl, 2)
call_of _ = None
