-- Which parts of the conditions tell of a tuple that it is not kept.
use Rattle.std.specs.Prelude.{◌≡◌, ℕ, ◌<◌, Bool, true, false, IsTrue, List, [], ◌∷◌, map, Result, Ok, Option, Some, None, ◌⊎◌, slice_index_or, IfOk}
use Rattle.std.specs.List.{All}
use Rattle.std.specs.Option.{IfSome}
use Rattle.mq_values.specs.Truth.{is_true, comparison}
use Rattle.mq_values.specs.declared.operators.CmpOp.TheVariants.{Eq}
use Rattle.mq_values.specs.declared.value.Value.{Value}
use Rattle.mq_values.specs.declared.value.Value.TheVariants.{Null}
use Rattle.mq_ir.specs.declared.expression.Expr.{Expr}
use Rattle.mq_ir.specs.declared.expression.Expr.TheVariants as expr
use Rattle.mq_ir.specs.declared.expression.Leaf.TheVariants as leaf
use Rattle.mq_ir.specs.declared.expression.Worth.{Worth}
use Rattle.mq_ir.specs.declared.query.ColRef.{ColRef}
use Rattle.mq_ir.specs.BaseRows.{all_true, row_leaves}
use Rattle.mq_ir.specs.Conditions.{conjunction}
use Rattle.mq_ir.specs.Expression.{Verdict, holds, worth_of}
use Rattle.mq_ir.specs.Keys.{Tuple}
use Rattle.mq_ir.specs.Worth.{Found}
use Rattle.mq_join.specs.declared.deciders.Decider.{Decider}
use Rattle.mq_join.specs.declared.lookups.Lookup.{Lookup}

-- the value of a column of a row of a FROM item
abbrev pub value_at : List Tuple → ℕ → ℕ → Value
value_at rows item column = slice_index_or (slice_index_or rows item []) column Null

-- what a comparison of two columns comes to
abbrev pub columns_equal : List Tuple → ℕ → ℕ → ℕ → ℕ → Option Bool
columns_equal rows item column other own = comparison Eq (value_at rows item column) (value_at rows other own)

-- the rows of the first n FROM items are the same
abbrev pub Agree : ℕ → List Tuple → List Tuple → Type 0
Agree n rows others = (i : ℕ) → i < n → slice_index_or rows i [] ≡ slice_index_or others i []

-- an expression that never faults, and that sees the rows of the first n FROM items alone
pub record SeesBelow (n : ℕ) (e : Expr) : Type 0 where
  pub found : (rows others : List Tuple) → Agree n rows others → (w : Worth) × (worth_of (row_leaves rows) e ≡ Ok w) × (worth_of (row_leaves others) e ≡ Ok w)

abbrev pub all_found : List Worth → List Found
all_found ws = map (λ w. Ok w) ws

-- the same of a list of them
pub record AllSeeBelow (n : ℕ) (es : List Expr) : Type 0 where
  pub found : (rows others : List Tuple) → Agree n rows others
      → (ws : List Worth) × (map (worth_of (row_leaves rows)) es ≡ all_found ws) × (map (worth_of (row_leaves others)) es ≡ all_found ws)

-- a condition that, where it is not true, ends the evaluation of the conditions with a tuple that is not kept
pub record Counts (conditions : List Expr) (c : Expr) : Type 0 where
  pub falls : (rows : List Tuple) (t : Option Bool) → holds (row_leaves rows) c ≡ Ok t → is_true t ≡ false → all_true (row_leaves rows) conditions ≡ Ok false

-- where what stands in `rest` is not all true, neither are the conditions
pub record Reached (conditions rest : List Expr) : Type 0 where
  pub falls : (rows : List Tuple) → all_true (row_leaves rows) rest ≡ Ok false → all_true (row_leaves rows) conditions ≡ Ok false

abbrev pub and_of : List Tuple → List Expr → Verdict
and_of rows es = conjunction (map (worth_of (row_leaves rows)) es)

-- what `rest` comes to decides of AND
pub record ReachedInAnd (es rest : List Expr) : Type 0 where
  pub no : (rows : List Tuple) → and_of rows rest ≡ Ok (Some false) → and_of rows es ≡ Ok (Some false)
  pub unknown : (rows : List Tuple) → IfOk (and_of rows rest) (λ t. is_true t ≡ false) → IfOk (and_of rows es) (λ t. is_true t ≡ false)

-- an expression that decides where it is false and, where `safe` says so, where it is unknown
pub record Decides (conditions : List Expr) (e : Expr) (safe : Bool) : Type 0 where
  pub no : (rows : List Tuple) → holds (row_leaves rows) e ≡ Ok (Some false) → all_true (row_leaves rows) conditions ≡ Ok false
  pub unknown : IsTrue safe → (rows : List Tuple) → holds (row_leaves rows) e ≡ Ok None → all_true (row_leaves rows) conditions ≡ Ok false

pub record IsDecider (conditions : List Expr) (d : Decider) : Type 0 where
  pub decides : Decides conditions d.e.now d.safe
  pub sees : IfSome d.below (λ n. SeesBelow n d.e.now)

-- an expression that is an equality of a column of an earlier item and one of the item of number `level`
pub record Equates (e : Expr) (level : ℕ) (l : Lookup) : Type 0 where
  pub earlier : l.item < level
  pub is : (rows : List Tuple) → holds (row_leaves rows) e ≡ Ok (columns_equal rows l.item l.column level l.own)

-- the equality decides where it is false and, where `safe` says so, where it is unknown
pub record IsServing (conditions : List Expr) (level : ℕ) (l : Lookup) : Type 0 where
  pub earlier : l.item < level
  pub no : (rows : List Tuple) → columns_equal rows l.item l.column level l.own ≡ Some false → all_true (row_leaves rows) conditions ≡ Ok false
  pub unknown : IsTrue l.safe → (rows : List Tuple) → columns_equal rows l.item l.column level l.own ≡ None → all_true (row_leaves rows) conditions ≡ Ok false

-- more deciders, whatever the conditions are for which `e` counts
abbrev pub AddsDeciders : Expr → List Decider → List Decider → Type 0
AddsDeciders e old new = (conditions : List Expr) → Counts conditions e → All (IsDecider conditions) old → All (IsDecider conditions) new

abbrev pub Serves : List Decider → ℕ → Lookup → Type 0
Serves deciders level l = (conditions : List Expr) → All (IsDecider conditions) deciders → IsServing conditions level l

-- an equality of two plain columns
abbrev pub equality : ColRef → ColRef → Expr
equality a b = expr.Cmp (expr.Leaf (leaf.Column a.item a.column)) Eq (expr.Leaf (leaf.Column b.item b.column))

-- what is looked up where the first column is sought in the second
abbrev pub LooksUp : ColRef → ColRef → ℕ → Bool → Lookup → Type 0
LooksUp a b level safe l = (l.item ≡ a.item) × (l.column ≡ a.column) × (l.own ≡ b.column) × (b.item ≡ level) × (a.item < level) × (l.safe ≡ safe)

-- a verdict that decides: false, or unknown where that is safe
abbrev pub IsNo : Option Bool → Bool → Type 0
IsNo truth safe = (truth ≡ Some false) ⊎ (IsTrue safe × (truth ≡ None))

-- what a decider says of these rows
pub record Denies (d : Decider) (rows : List Tuple) : Type 0 where
  pub truth : Option Bool
  pub is : holds (row_leaves rows) d.e.now ≡ Ok truth
  pub no : IsNo truth d.safe

-- the same where they are the rows of the first n items, and it sees no others
pub record TellsNo (d : Decider) (n : ℕ) (rows : List Tuple) : Type 0 where
  pub sees : d.below ≡ Some n
  pub denies : Denies d rows
