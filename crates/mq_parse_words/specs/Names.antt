-- Parts of one token that several readers share, beside those of the grammar's own words.
use Rattle.std.specs.Prelude.{ℕ, List, ◌∷◌}
use Rattle.mq_values.specs.Number.{Number}
use Rattle.mq_ast.specs.Tokens.{Tok, Num, Text}
use Rattle.mq_ast.specs.GrammarNames.{IsInt}

-- int
pub data IntE : Number → List Tok → List Tok → Type 0 where
  int : {n : Number} {to : List Tok} → IsInt n → IntE n (Num n ∷ to) to

-- txt
pub data TextE : List ℕ → List Tok → List Tok → Type 0 where
  txt : {z : List ℕ} {to : List Tok} → TextE z (Text z ∷ to) to
