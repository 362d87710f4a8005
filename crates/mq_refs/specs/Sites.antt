-- Where a right side stands, and the names that its references give to cells.
use Rattle.std.specs.Prelude.{ℕ, List, [], ◌∷◌, map, Option, Some, None, Result, Ok, Err}
use Rattle.std.specs.List.{zip}
use Rattle.mq_values.specs.declared.faults.ValueFault.{ValueFault}
use Rattle.mq_values.specs.declared.operators.DimTest.{DimTest}
use Rattle.mq_values.specs.declared.value.Kind.{Kind}
use Rattle.mq_values.specs.declared.value.Value.{Value}
use Rattle.mq_ir.specs.declared.expression.BoundSum.{BoundSum}
use Rattle.mq_ir.specs.declared.expression.Expr.{Expr}
use Rattle.mq_ir.specs.declared.expression.Test.{Test}
use Rattle.mq_ir.specs.Expression.{Outcome, ev}
use Rattle.mq_ir.specs.Keys.{Tuple}
use Rattle.mq_ir.specs.Operators.{added, chained}
use Rattle.mq_ir.specs.PartLaws.{term_found}
use Rattle.mq_ir.specs.Reads.{Measures, Site, cell_named, inner_leaves}
use Rattle.mq_ir.specs.Results.{◌>>=◌, each}
use Rattle.mq_ir.specs.Tests.{converted, test_of}
use Rattle.mq_ir.specs.Unfolding.{Model, model_of}
use Rattle.mq_refs.specs.declared.standpoint.Standpoint.{Standpoint}

-- a rule at a target in a turn, among these cells
abbrev pub site_with : Model → ℕ → Tuple → List Tuple → Site
site_with model turn target set = record { model = model; target = target; turn = turn; set = set }

-- where a right side stands among these cells, as definitions have it
abbrev pub site_over : Standpoint → List Tuple → Site
site_over at set = site_with (model_of at.model.now) at.turn at.target.now set

-- the same for what sees no set of cells: the indices of a cell, the operands of a range
abbrev pub site_of : Standpoint → Site
site_of at = site_over at []

-- an index of a single cell, and a place of a range, with the kind of its dimension beside it
abbrev pub index_named : Site → Kind × Expr → Result Value ValueFault
index_named site (kind, e) = converted (inner_leaves site) kind e

abbrev pub place_tested : Site → Kind × Test → Result DimTest ValueFault
place_tested site (kind, place) = test_of (inner_leaves site) kind place

-- the tests of a range, their operands evaluated
abbrev pub tests_named : Site → List Kind → List Test → Result (List DimTest) ValueFault
tests_named site kinds places = each (place_tested site) (zip kinds places)

-- what is named, where nothing faults on the way
abbrev pub if_named : {A : Type 0} → Result A ValueFault → Option A
if_named (Ok name) = Some name
if_named (Err fault) = None

-- a sum where only the target's dimensions and the turn are known
abbrev pub total_of : Site → Expr → List BoundSum → Outcome
total_of site first terms = ev (inner_leaves site) first >>= (λ v. chained added v (map (term_found (inner_leaves site)) terms))

-- a measure of the single cell that indices name, without NAV
abbrev pub value_named : Site → Measures → ℕ → List Expr → Outcome
value_named site now m indices = cell_named site site.model.part.dims indices >>= (λ key. Ok (now (record { key = key; measure = m })))

-- the same, where there is one dimension, of this kind, and one index
abbrev pub value_by_one : Site → Measures → ℕ → Kind → Expr → Outcome
value_by_one site now m kind index = index_named site (kind, index) >>= (λ v. Ok (now (record { key = v ∷ []; measure = m })))
