-- Lists in the grammar. R a from to: a reads the tokens of `from` before `to`.
use Rattle.std.specs.Prelude.{ℕ, List, [], ◌∷◌}
use Rattle.mq_ast.specs.Tokens.{Tok, Name, comma}

-- {',' a}
pub data MoreOf {A : Type 0} (R : A → List Tok → List Tok → Type 0) : List A → List Tok → List Tok → Type 0 where
  more_end : {to : List Tok} → MoreOf R [] to to
  more_comma : {a : A} {xs : List A} {from mid to : List Tok} → R a from mid → MoreOf R xs mid to → MoreOf R (a ∷ xs) (comma ∷ from) to

-- a {',' a}
pub data SomeOf {A : Type 0} (R : A → List Tok → List Tok → Type 0) : List A → List Tok → List Tok → Type 0 where
  some_of : {a : A} {xs : List A} {from mid to : List Tok} → R a from mid → MoreOf R xs mid to → SomeOf R (a ∷ xs) from to

-- {a}
pub data ManyOf {A : Type 0} (R : A → List Tok → List Tok → Type 0) : List A → List Tok → List Tok → Type 0 where
  many_end : {to : List Tok} → ManyOf R [] to to
  many_more : {a : A} {xs : List A} {from mid to : List Tok} → R a from mid → ManyOf R xs mid to → ManyOf R (a ∷ xs) from to

-- name
pub data NameE : List ℕ → List Tok → List Tok → Type 0 where
  name : {n : List ℕ} {to : List Tok} → NameE n (Name n ∷ to) to
