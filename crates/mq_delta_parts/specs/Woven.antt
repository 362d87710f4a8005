-- Lists that are woven of two, and what a change makes of a list of rows.
use Rattle.std.specs.Prelude.{List, [], ◌∷◌}

-- `all` is `stay` and `some`, each in its order, woven together
pub data Woven {A : Type 0} : List A → List A → List A → Type 0 where
  woven_end : Woven [] [] []
  woven_stay : {x : A} {stay some all : List A} → Woven stay some all → Woven (x ∷ stay) some (x ∷ all)
  woven_some : {x : A} {stay some all : List A} → Woven stay some all → Woven stay (x ∷ some) (x ∷ all)

-- rows went from a list and others came: what is in both lists stays in its order
pub record IsChangeOf {A : Type 0} (old gone come new : List A) : Type 0 where
  pub stay : List A
  pub before : Woven stay gone old
  pub after : Woven stay come new
