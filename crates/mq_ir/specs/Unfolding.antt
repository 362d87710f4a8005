-- The single left sides of a rule.
use Rattle.std.specs.Prelude.{ℕ, suc, ◌/◌, ◌==◌, pos, ℤ, ◌+ℤ◌, ◌-ℤ◌, ◌*ℤ◌, int_le, unsigned_abs, Bool, List, [], ◌∷◌, length, map, nat_lt, Result, Ok, Err, if◌then◌else◌, slice_index_or}
use Rattle.std.specs.List.{enumerate_from, find, range_with_len, zip}
use Rattle.std.specs.Option.{option_map_or}
use Rattle.mq_values.specs.Convert.{cast_of}
use Rattle.mq_values.specs.declared.faults.FaultKind.{FaultKind}
use Rattle.mq_values.specs.declared.faults.FaultKind.TheVariants as fault
use Rattle.mq_values.specs.declared.faults.ValueFault.{ValueFault}
use Rattle.mq_values.specs.declared.value.Kind.{Kind}
use Rattle.mq_values.specs.declared.value.Kind.TheVariants as kind
use Rattle.mq_values.specs.declared.value.Value.{Value}
use Rattle.mq_values.specs.declared.value.Value.TheVariants as value
use Rattle.mq_ir.specs.declared.expression.Expr.{Expr}
use Rattle.mq_ir.specs.declared.expression.Expr.TheOpen as layer
use Rattle.mq_ir.specs.declared.expression.Leaf.{Leaf, out-Leaf}
use Rattle.mq_ir.specs.declared.query.Left.{Left}
use Rattle.mq_ir.specs.declared.query.Left.TheVariants.{Places, Tuples}
use Rattle.mq_ir.specs.declared.query.LeftItem.{LeftItem}
use Rattle.mq_ir.specs.declared.query.LeftItem.TheVariants.{At, Sym, List as Listed, Steps}
use Rattle.mq_ir.specs.declared.query.ListSource.{ListSource}
use Rattle.mq_ir.specs.declared.query.ListSource.TheVariants.{Values, Rows}
use Rattle.mq_ir.specs.declared.query.Model.{Model as Lent}
use Rattle.mq_ir.specs.declared.query.ModelPart.{ModelPart}
use Rattle.mq_ir.specs.declared.query.RefArray.{RefArray}
use Rattle.mq_ir.specs.declared.query.Rule.{Rule}
use Rattle.mq_ir.specs.declared.query.SingleLeft.{SingleLeft}
use Rattle.mq_ir.specs.declared.query.SinglePlace.{SinglePlace}
use Rattle.mq_ir.specs.declared.query.SinglePlace.TheVariants as place
use Rattle.mq_ir.specs.Combinations.{combinations}
use Rattle.mq_ir.specs.Expression.{Outcome, ev, whole}
use Rattle.mq_values.specs.declared.limits.TheConstants.{MAX_SINGLE_LEFT_SIDES}
use Rattle.mq_ir.specs.Partitions.{Tuple, Cells}
use Rattle.mq_ir.specs.Placed.{kind_of}
use Rattle.mq_ir.specs.Results.{◌>>=◌, each, marked}
pub use Rattle.mq_ir.specs.Tests.{converted, test_of}

-- a model with the rows of its FOR subqueries and the arrays of its references, as they were computed
pub record Model : Type 0 where
  pub part : ModelPart
  pub lists : List (List Tuple)
  pub refs : List Cells

-- what a lent model is
abbrev pub model_of : Lent → Model
model_of m = record { part = m.part.now; lists = m.lists.now; refs = map (λ (r : RefArray). r.cells) m.refs.now }

-- the expressions of a left side know the turn alone, and see no cells
abbrev pub left_leaves : ℕ → Leaf → Outcome
left_leaves turn l = elim (out-Leaf l) [ layer.Turn ↦ Ok (whole turn) | _ ↦ Ok value.Null ]

abbrev pub kind_at : Model → ℕ → Kind
kind_at model dim = slice_index_or model.part.dims dim kind.Int

-- a listed value is brought to the kind of its dimension as soon as it is there
abbrev pub listed : (Leaf → Outcome) → Kind → Expr → Result SinglePlace ValueFault
listed leaves kind e = converted leaves kind e >>= (λ v. Ok (place.At v))

abbrev pub listed_value : Kind → Value → Result SinglePlace ValueFault
listed_value kind v = cast_of v kind >>= (λ w. Ok (place.At w))

-- the rows that a FOR lists, each with a value for each of these kinds
abbrev pub source_rows : Model → ℕ → List Kind → ListSource → Result (List (List SinglePlace)) ValueFault
source_rows model turn kinds (Values rows) = each (λ row. each (λ (kind, e). listed (left_leaves turn) kind e) (zip kinds row)) rows
source_rows model turn kinds (Rows list) = each (λ row. each (λ (kind, v). listed_value kind v) (zip kinds row)) (slice_index_or model.lists list [])

-- start, start + step, start + 2 * step and so on while not above stop; nothing where the step is not above zero
abbrev pub progression : ℤ → ℤ → ℤ → List ℤ
progression start stop (pos (suc step)) =
    if int_le start stop then map (λ k. start +ℤ (pos k *ℤ pos (suc step))) (range_with_len 0 (suc (unsigned_abs (stop -ℤ start) / suc step))) else []
progression start stop _ = []

-- the same downwards, while not below stop
abbrev pub regression : ℤ → ℤ → ℤ → List ℤ
regression start stop step = map (λ d. start -ℤ (d -ℤ start)) (progression start (start +ℤ (start -ℤ stop)) step)

abbrev pub in_steps : Bool → ℤ → ℤ → ℤ → List ℤ
in_steps down = if down then regression else progression

-- FOR .. FROM .. TO .. over whole numbers of the dimension's kind, or over dates by their ordinals; nothing where a bound or the step
-- is null, or where the step over dates is of another scale than 0
abbrev pub steps_of : Bool → Value → Value → Value → List SinglePlace
steps_of down (value.Num start) (value.Num stop) (value.Num step) =
    map (λ m. place.At (value.Num (record { mant = m; scale = start.scale }))) (in_steps down start.mant stop.mant step.mant)
steps_of down (value.Date start) (value.Date stop) (value.Num step) =
    if step.scale == 0 then map (λ m. place.At (value.Date (unsigned_abs m))) (in_steps down (pos start) (pos stop) step.mant) else []
steps_of down _ _ _ = []

-- The step of FOR .. FROM over a dimension of this kind. It is brought to that kind, as the bounds are; but over dates it counts days, and
-- stays as it is.
abbrev pub step_outcome : (Leaf → Outcome) → Kind → Expr → Outcome
step_outcome leaves kind.Date e = ev leaves e
step_outcome leaves kind e = converted leaves kind e

-- what stands in a place of a single left side, one after another
abbrev pub item_places : Model → ℕ → ℕ × LeftItem → Result (List SinglePlace) ValueFault
item_places model turn (dim, At e) = listed (left_leaves turn) (kind_at model dim) e >>= (λ p. Ok (p ∷ []))
item_places model turn (dim, Sym test) = test_of (left_leaves turn) (kind_at model dim) test >>= (λ t. Ok (place.Sym t ∷ []))
item_places model turn (dim, Listed source) = source_rows model turn (kind_at model dim ∷ []) source >>= (λ rows. Ok (map (λ row. slice_index_or row 0 (place.At value.Null)) rows))
item_places model turn (dim, Steps start stop step down) =
    let at : Expr → Outcome = converted (left_leaves turn) (kind_at model dim) in
    at start >>= (λ a. at stop >>= (λ b. step_outcome (left_leaves turn) (kind_at model dim) step >>= (λ c. Ok (steps_of down a b c))))

-- a row of FOR (d1, d2, ..) in the order of the dimensions
abbrev pub in_order : ℕ → List ℕ → List SinglePlace → List SinglePlace
in_order count dims row =
    map (λ dim. option_map_or (λ named. named.1) (find (λ (named : ℕ × SinglePlace). named.0 == dim) (zip dims row)) (place.At value.Null)) (range_with_len 0 count)

-- the places of all single left sides; of several FORs the first turns slowest
abbrev pub left_places : Model → ℕ → Left → Result (List (List SinglePlace)) ValueFault
left_places model turn (Places items) = each (item_places model turn) (enumerate_from 0 items) >>= (λ lists. Ok (combinations lists))
left_places model turn (Tuples dims source) =
    source_rows model turn (map (kind_at model) dims) source >>= (λ rows. Ok (map (in_order (length model.part.dims) dims) rows))

abbrev pub single : Rule → List SinglePlace → SingleLeft
single rule places = record { measure = rule.measure; places = places; order = rule.order }

-- The single left sides of a rule in a turn, in order. A value fault comes before the limit on their number.
abbrev pub unfold_rule : Model → Rule → ℕ → Result (List SingleLeft) FaultKind
unfold_rule model rule turn =
    marked kind_of (left_places model turn rule.left) >>= (λ all.
    if nat_lt MAX_SINGLE_LEFT_SIDES (length all) then Err fault.TooManyUnfolded else Ok (map (single rule) all))
