-- The grammar of changes. ChangeE c tokens: c reads all the tokens.
use Rattle.std.specs.Prelude.{ℕ, List, [], ◌∷◌, Option, None, Some}
use Rattle.mq_ast.specs.declared.expressions.E.{E}
use Rattle.mq_ast.specs.declared.statements.ChangeTree.{ChangeTree}
use Rattle.mq_ast.specs.declared.statements.ChangeTree.TheVariants as change
use Rattle.mq_lexer.specs.declared.keywords.Keyword.TheVariants as word
use Rattle.mq_ast.specs.Tokens.{Tok, Word, Name, opener, closer, equal}
use Rattle.mq_ast.specs.GrammarLists.{SomeOf, NameE}
use Rattle.mq_ast.specs.GrammarExpression.{Expr, Tuple}
use Rattle.mq_ast.specs.GrammarQuery.{WhereE}

-- '(' names ')', where names := name {',' name}
pub data NamesE : List (List ℕ) → List Tok → List Tok → Type 0 where
  names : {ns : List (List ℕ)} {from to : List Tok} → SomeOf NameE ns from (closer ∷ to) → NamesE ns (opener ∷ from) to

-- ['(' names ')']
pub data MaybeNames : Option (List (List ℕ)) → List Tok → List Tok → Type 0 where
  names_none : {to : List Tok} → MaybeNames None to to
  names_some : {ns : List (List ℕ)} {from to : List Tok} → NamesE ns from to → MaybeNames (Some ns) from to

-- name '=' e
pub data SetE : List ℕ × E → List Tok → List Tok → Type 0 where
  set : {n : List ℕ} {a : E} {from to : List Tok} → Expr a from to → SetE (n, a) (Name n ∷ equal ∷ from) to

-- change := what is below
pub data ChangeE : ChangeTree → List Tok → Type 0 where
  -- INSERT INTO name ['(' names ')'] VALUES tuple {',' tuple}
  change_insert : {n : List ℕ} {o : Option (List (List ℕ))} {xss : List (List E)} {from mid : List Tok} →
      MaybeNames o from (Word word.Values ∷ mid) → SomeOf Tuple xss mid [] →
      ChangeE (change.Insert n o xss) (Word word.Insert ∷ Word word.Into ∷ Name n ∷ from)
  -- UPDATE name SET name '=' e {',' name '=' e} [WHERE e]
  change_update : {n : List ℕ} {xs : List (List ℕ × E)} {o : Option E} {from mid : List Tok} →
      SomeOf SetE xs from mid → WhereE o mid [] → ChangeE (change.Update n xs o) (Word word.Update ∷ Name n ∷ Word word.Set ∷ from)
  -- DELETE FROM name [WHERE e]
  change_delete : {n : List ℕ} {o : Option E} {from : List Tok} →
      WhereE o from [] → ChangeE (change.Delete n o) (Word word.Delete ∷ Word word.From ∷ Name n ∷ from)
