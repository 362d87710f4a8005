-- The grammar of what stands before the rules of a MODEL clause.
use Rattle.std.specs.Prelude.{Bool, true, false, List, ◌∷◌, Option, None, Some}
use Rattle.mq_values.specs.Number.{Number}
use Rattle.mq_values.specs.declared.operators.Mode.{Mode}
use Rattle.mq_ast.specs.declared.expressions.E.{E}
use Rattle.mq_ast.specs.declared.parts.Head.{Head}
use Rattle.mq_lexer.specs.declared.keywords.Keyword.TheVariants as word
use Rattle.mq_ast.specs.Tokens.{Tok, Word, Num, opener, closer}
use Rattle.mq_ast.specs.GrammarNames.{IsInt}
use Rattle.mq_ast.specs.GrammarExpression.{Expr}
use Rattle.mq_ast.specs.GrammarRule.{MaybeMode}

-- [(AUTOMATIC | SEQUENTIAL) ORDER]
pub data AutoE : Bool → List Tok → List Tok → Type 0 where
  auto_none : {to : List Tok} → AutoE false to to
  auto_yes : {to : List Tok} → AutoE true (Word word.Automatic ∷ Word word.Order ∷ to) to
  auto_no : {to : List Tok} → AutoE false (Word word.Sequential ∷ Word word.Order ∷ to) to

-- [UNTIL '(' e ')']
pub data UntilE : Option E → List Tok → List Tok → Type 0 where
  until_none : {to : List Tok} → UntilE None to to
  until_some : {a : E} {from to : List Tok} → Expr a from (closer ∷ to) → UntilE (Some a) (Word word.Until ∷ opener ∷ from) to

-- '(' int ')'
pub data RoundInt : Number → List Tok → List Tok → Type 0 where
  round_int : {n : Number} {to : List Tok} → IsInt n → RoundInt n (opener ∷ Num n ∷ closer ∷ to) to

-- [ITERATE '(' int ')' [UNTIL '(' e ')']]
pub data IterateE : Option Number × Option E → List Tok → List Tok → Type 0 where
  iterate_none : {to : List Tok} → IterateE (None, None) to to
  iterate_some : {n : Number} {u : Option E} {from mid to : List Tok} →
      RoundInt n from mid → UntilE u mid to → IterateE (Some n, u) (Word word.Iterate ∷ from) to

abbrev pub head_of : Option Mode → Bool → Option Number × Option E → Head
head_of m b p = record { mode = m; auto = b; iterate = p.0; until = p.1 }

-- [RULES [mode] [(AUTOMATIC | SEQUENTIAL) ORDER] [ITERATE '(' int ')' [UNTIL '(' e ')']]], the head of `rules`
pub data HeadE : Head → List Tok → List Tok → Type 0 where
  head_none : {to : List Tok} → HeadE (head_of None false (None, None)) to to
  head_some : {m : Option Mode} {b : Bool} {p : Option Number × Option E} {from mid next to : List Tok} →
      MaybeMode m from mid → AutoE b mid next → IterateE p next to → HeadE (head_of m b p) (Word word.Rules ∷ from) to
