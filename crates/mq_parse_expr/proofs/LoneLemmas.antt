-- What came of putting a name or a number alone into a list.
use Rattle.std.proofs.Common.{◌≡◌, ◌++◌, Bool, true, false, List, [], ◌∷◌, subst}
use Rattle.mq_ast.specs.declared.expressions.E.{E}
use Rattle.mq_parse_expr.specs.Lone.{Put}

pub put_so : {X : Type 0} (item : E → X) (L : E → Type 0) (old new : List X) (b : Bool) → b ≡ true → Put item L old new b → (e : E) × L e × (new ≡ old ++ item e ∷ [])
put_so item L old new b e p = let P : Bool → Type 0 = λ x. Put item L old new x in subst P e p

pub put_not : {X : Type 0} (item : E → X) (L : E → Type 0) (old new : List X) (b : Bool) → b ≡ false → Put item L old new b → new ≡ old
put_not item L old new b e p = let P : Bool → Type 0 = λ x. Put item L old new x in subst P e p
