-- The looks of an expression and of its parts, where what a leaf looks at is given.
use Rattle.std.specs.Prelude.{List, [], ◌∷◌, ◌++◌, Option}
use Rattle.std.specs.List.{flat_map}
use Rattle.std.specs.Option.{option_map_or}
use Rattle.mq_ir.specs.declared.expression.BoundArm.{BoundArm}
use Rattle.mq_ir.specs.declared.expression.BoundProd.{BoundProd}
use Rattle.mq_ir.specs.declared.expression.BoundSum.{BoundSum}
use Rattle.mq_ir.specs.declared.expression.Expr.{Expr}
use Rattle.mq_ir.specs.declared.expression.Leaf.{Leaf}
use Rattle.mq_ir.specs.declared.query.Look.{Look}
use Rattle.mq_ir.specs.declared.query.Look.TheVariants.{Presence}
use Rattle.mq_ir.specs.Keys.{Tuple}
use Rattle.mq_ir.specs.Looks.{leaves_of}

-- the presence of a cell, as a look
abbrev pub presence_at : Tuple → List Look
presence_at key = Presence key ∷ []

-- the looks of the leaves of an expression: `looks_of site` of mq_ir's specs/Looks is `looks_by (leaf_looks site)`
abbrev pub looks_by : (Leaf → List Look) → Expr → List Look
looks_by of e = flat_map of (leaves_of e)

-- those of a term of a sum, of a factor, of an arm of CASE, and of a part of it that may be left out
abbrev pub looks_in_term : (Leaf → List Look) → BoundSum → List Look
looks_in_term of term = looks_by of term.e

abbrev pub looks_in_factor : (Leaf → List Look) → BoundProd → List Look
looks_in_factor of factor = looks_by of factor.e

abbrev pub looks_in_arm : (Leaf → List Look) → BoundArm → List Look
looks_in_arm of arm = looks_by of arm.test ++ looks_by of arm.value

abbrev pub looks_where_any : (Leaf → List Look) → Option Expr → List Look
looks_where_any of e = option_map_or (looks_by of) e []
