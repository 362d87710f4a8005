-- What it is for a part of the grammar to read tokens in one way only.
use Rattle.std.specs.Prelude.{◌≡◌, List}
use Rattle.mq_ast.specs.Tokens.{Tok}

-- Two trees that read the tokens from one place, each up to a place where such an end is, are equal and end at the same place.
abbrev pub OneTree : {A : Type 0} → (A → List Tok → List Tok → Type 0) → (List Tok → Type 0) → Type 0
OneTree {A} R Stop = (a b : A) (from to to' : List Tok) → R a from to → R b from to' → Stop to → Stop to' → (a ≡ b) × (to ≡ to')
