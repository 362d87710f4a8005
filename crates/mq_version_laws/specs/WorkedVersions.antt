-- A model over a small input with its versions, worked out by hand.
use Rattle.std.specs.Prelude.{◌≡◌, ℕ, List, [], ◌∷◌, true, false, map, Some}
use Rattle.std.specs.Map.{keys_of}
use Rattle.mq_values.specs.declared.operators.SumOp.TheVariants.{Add}
use Rattle.mq_ir.specs.declared.expression.Expr.TheVariants as e
use Rattle.mq_ir.specs.declared.query.CellName.{CellName}
use Rattle.mq_ir.specs.declared.query.LeftItem.TheVariants as item
use Rattle.mq_ir.specs.declared.query.Slot.TheVariants.{Done}
use Rattle.mq_ir.specs.Expression.{whole}
use Rattle.mq_ir.specs.Histories.{history}
use Rattle.mq_ir.specs.Keys.{Tuple}
use Rattle.mq_ir.specs.Partitions.{Cells}
use Rattle.mq_ir.specs.Unfolding.{Model}
use Rattle.mq_ir.specs.VersionLooks.{VersionName, Made, Given, looks_at_node, name_of}
use Rattle.mq_ir.specs.VersionSeeds.{affected_looks, is_version_affected}
use Rattle.mq_ir.specs.Versions.{versions}
use Rattle.mq_ir.specs.Worked.{amount, cell, number, over_years, rule_of, sales}

-- S[2002] = S[2001], S[2001] = 0, S[2003] = S[2001] + S[2002]
abbrev pub sums : Model
sums =
    over_years false (rule_of (item.At (number 2002)) [] (cell (number 2001)) ∷ rule_of (item.At (number 2001)) [] (number 0)
    ∷ rule_of (item.At (number 2003)) [] (e.Sum (cell (number 2001)) (record { op = Add; e = cell (number 2002) } ∷ [])) ∷ [])

abbrev pub years : List Tuple
years = keys_of sales.cells

-- the same input with another amount in 2001
abbrev pub changed : Cells
changed = (whole 2000 ∷ [], amount 1000 ∷ []) ∷ (whole 2001 ∷ [], amount 100 ∷ []) ∷ []

-- the version that a rule makes of a year
abbrev pub made : ℕ → ℕ → VersionName
made rule year = record { number = rule; place = 0; key = whole year ∷ [] }

abbrev pub given : ℕ → CellName
given year = record { key = whole year ∷ []; measure = 0 }

abbrev pub all_made : List VersionName
all_made = made 1 2002 ∷ made 2 2001 ∷ made 3 2003 ∷ []

-- one version of each rule
abbrev pub VersionsOfSums : Type 0
VersionsOfSums = map name_of (versions sums years) ≡ all_made

-- the first rule looks at the input, which the second one assigns later; the third looks at what both have made
abbrev pub LooksOfSums : Type 0
LooksOfSums =
    map (λ name. looks_at_node sums years (Made name)) all_made
    ≡ Some (Given (given 2001) ∷ []) ∷ Some [] ∷ Some (Made (made 2 2001) ∷ Made (made 1 2002) ∷ []) ∷ []

-- 12.50, 0.00 and their sum
abbrev pub SlotsOfSums : Type 0
SlotsOfSums = map (λ w. w.1) (history sums sales.cells) ≡ Done (amount 1250) ∷ Done (amount 0) ∷ Done (amount 1250) ∷ []

-- another amount in 2001 reaches the first rule, and the third by the first; the second looks at nothing
abbrev pub AffectedOfSums : Type 0
AffectedOfSums = map (λ name. is_version_affected sums sales.cells changed (Made name)) all_made ≡ true ∷ false ∷ true ∷ []

-- the two look at three measures
abbrev pub AffectedLooksOfSums : Type 0
AffectedLooksOfSums = affected_looks sums sales.cells changed ≡ 3
