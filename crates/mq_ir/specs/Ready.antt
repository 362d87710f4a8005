-- What is asked of a model, of a query with one and of a partition before the rules run.
use Rattle.std.specs.Prelude.{◌≡◌, ℕ, ◌+◌, List, length, None, IfSome}
use Rattle.std.specs.List.{All}
use Rattle.std.specs.List.Sorted.{IsStrictlySortedBy}
use Rattle.std.specs.Map.{keys_of}
use Rattle.mq_values.specs.Order.{cmp_key}
use Rattle.mq_ir.specs.declared.query.BoundQuery.{BoundQuery}
use Rattle.mq_ir.specs.declared.query.Left.{Left}
use Rattle.mq_ir.specs.declared.query.Left.TheVariants.{Places, Tuples}
use Rattle.mq_ir.specs.declared.query.ModelPart.{ModelPart}
use Rattle.mq_ir.specs.declared.query.PartInput.{PartInput}
use Rattle.mq_ir.specs.declared.query.SingleLeft.{SingleLeft}
use Rattle.mq_ir.specs.Keys.{Tuple}

-- each key has so many values, and each single left side so many places
abbrev pub HaveLength : ℕ → List Tuple → Type 0
HaveLength n keys = All (λ key. length key ≡ n) keys

abbrev pub HavePlaces : ℕ → List SingleLeft → Type 0
HavePlaces n lefts = All (λ left. length left.places ≡ n) lefts

-- a left side has a place for each dimension; a FOR over tuples has them by itself
abbrev pub LeftHasPlaces : ℕ → Left → Type 0
LeftHasPlaces n (Places items) = length items ≡ n
LeftHasPlaces n (Tuples dims source) = Unit {0}

-- each left side of a model has
abbrev pub LeftsHavePlaces : ModelPart → Type 0
LeftsHavePlaces part = All (λ rule. LeftHasPlaces (length part.dims) rule.left) part.rules

-- the rules may run: each left side has a place and each cell a value for each dimension, and the cells ascend where no tuple stands twice
pub record IsReady (part : ModelPart) (p : PartInput) : Type 0 where
  pub lefts : LeftsHavePlaces part
  pub wide : HaveLength (length part.dims) (keys_of p.cells)
  pub ascend : p.repeated ≡ None → IsStrictlySortedBy cmp_key (keys_of p.cells)

-- how many values an item row of a model has: those of the partition, the dimensions and the measures
abbrev pub width_of : ModelPart → ℕ
width_of part = part.parts + length part.dims + length part.measures

-- the rules of a model may run over rows of so many columns: each left side has a place for each dimension
pub record ModelIsReady (columns : ℕ) (part : ModelPart) : Type 0 where
  pub lefts : LeftsHavePlaces part
  pub wide : columns ≡ width_of part

-- so may those of a query's model, where it has one
abbrev pub QueryIsReady : BoundQuery → Type 0
QueryIsReady q = IfSome q.model (ModelIsReady (length q.items.items))
