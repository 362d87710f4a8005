-- The rows that FOR lists, row by row.
use Rattle.std.specs.Prelude.{ℕ, List, [], ◌∷◌, map, Result, Ok, slice_index_or}
use Rattle.std.specs.List.{zip}
use Rattle.mq_values.specs.declared.faults.ValueFault.{ValueFault}
use Rattle.mq_values.specs.declared.value.Kind.{Kind}
use Rattle.mq_values.specs.declared.value.Value.{Value}
use Rattle.mq_values.specs.declared.value.Value.TheVariants as value
use Rattle.mq_ir.specs.declared.expression.Expr.{Expr}
use Rattle.mq_ir.specs.declared.query.SinglePlace.{SinglePlace}
use Rattle.mq_ir.specs.declared.query.SinglePlace.TheVariants as place
use Rattle.mq_ir.specs.declared.expression.Test.{Test}
use Rattle.mq_ir.specs.declared.query.ListSource.{ListSource}
use Rattle.mq_ir.specs.Results.{◌>>=◌, each}
use Rattle.mq_ir.specs.Tests.{test_of}
use Rattle.mq_ir.specs.Unfolding.{Model, left_leaves, listed, listed_value, source_rows}

abbrev pub Listed : Type 0
Listed = Result (List SinglePlace) ValueFault

-- an expression, and a value, with the kind that stands beside it
abbrev pub pair_listed : ℕ → Kind × Expr → Result SinglePlace ValueFault
pair_listed turn (kind, e) = listed (left_leaves turn) kind e

abbrev pub pair_value : Kind × Value → Result SinglePlace ValueFault
pair_value (kind, v) = listed_value kind v

-- a row of expressions, and one of values, with a place for each of these kinds
abbrev pub row_listed : ℕ → List Kind → List Expr → Listed
row_listed turn kinds row = each (pair_listed turn) (zip kinds row)

abbrev pub row_values : List Kind → List Value → Listed
row_values kinds row = each pair_value (zip kinds row)

-- what stands first in a row
abbrev pub first_of : List SinglePlace → SinglePlace
first_of row = slice_index_or row 0 (place.At value.Null)

-- the places that a FOR over one dimension lists
abbrev pub listed_places : Model → ℕ → Kind → ListSource → Listed
listed_places model turn kind source = source_rows model turn (kind ∷ []) source >>= (λ rows. Ok (map first_of rows))

-- the place of a condition
abbrev pub tested_place : ℕ → Kind → Test → Result SinglePlace ValueFault
tested_place turn kind test = test_of (left_leaves turn) kind test >>= (λ t. Ok (place.Sym t))

-- the first place of each row
abbrev pub first_listed : ℕ → Kind → List Expr → Result SinglePlace ValueFault
first_listed turn kind [] = Ok (place.At value.Null)
first_listed turn kind (e ∷ es) = listed (left_leaves turn) kind e

abbrev pub first_value : Kind → List Value → Result SinglePlace ValueFault
first_value kind [] = Ok (place.At value.Null)
first_value kind (v ∷ vs) = listed_value kind v
