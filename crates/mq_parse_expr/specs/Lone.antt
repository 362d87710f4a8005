-- A name or a number alone, and what putting it into a list changes.
use Rattle.std.specs.Prelude.{◌≡◌, ◌<◌, ◌+◌, ◌++◌, ℕ, Bool, true, false, List, [], ◌∷◌, length}
use Rattle.mq_lexer.specs.declared.sorts.Token.{Token}
use Rattle.mq_ast.specs.declared.expressions.E.{E}
use Rattle.mq_ast.specs.Continuing.{Stops}
use Rattle.mq_ast.specs.GrammarExpression.{PrimE}
use Rattle.mq_parse_words.specs.Reading.{from}

-- the tree of the one token at a place, behind which no token stands that goes on at this level
abbrev pub Lone : ℕ → List Token → ℕ → E → Type 0
Lone level t at e = (at < length t) × PrimE e (from t at) (from t (at + 1)) × Stops level (from t (at + 1))

-- such a tree was put behind the items, as an item, or they are as before
abbrev pub Put : {X : Type 0} → (E → X) → (E → Type 0) → List X → List X → Bool → Type 0
Put item Lone old new true = (e : E) × Lone e × (new ≡ old ++ item e ∷ [])
Put item Lone old new false = new ≡ old
