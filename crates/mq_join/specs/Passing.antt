-- Which places the walk over all tuples may pass over.
use Rattle.std.specs.Prelude.{◌≡◌, ℕ, ◌<◌, Bool, true, false, List, [], ◌∷◌, ◌++◌, length, Ok, Option, Some, None, slice_get, slice_index_or}
use Rattle.std.specs.List.{All}
use Rattle.std.specs.Option.{IfSome}
use Rattle.mq_values.specs.declared.value.Value.{Value}
use Rattle.mq_ir.specs.declared.expression.Expr.{Expr}
use Rattle.mq_ir.specs.BaseRows.{Places, all_true, row_leaves, rows_at}
use Rattle.mq_ir.specs.Keys.{Tuple}
use Rattle.mq_join.specs.Deciding.{IsDecider, IsServing}
use Rattle.mq_join.specs.Indexed.{IsFirst, IsIndexed, matches}
use Rattle.mq_join.specs.declared.deciders.Decider.{Decider}
use Rattle.mq_join.specs.declared.indexes.Index.{Index}
use Rattle.mq_join.specs.declared.plans.Plan.{Plan}

-- no tuple that begins with these places is kept, and none faults
pub record Idle (conditions : List Expr) (items : List (List Tuple)) (places : Places) : Type 0 where
  pub idle : (rest : Places) → all_true (row_leaves (rows_at items (places ++ rest))) conditions ≡ Ok false

-- an index of the item of number `level`, by an equality that decides
pub record IsIndexOf (conditions : List Expr) (level : ℕ) (rows : List Tuple) (x : Index) : Type 0 where
  pub serving : IsServing conditions level x.lookup
  pub indexed : IsIndexed rows x

pub record AllServe (conditions : List Expr) (items : List (List Tuple)) (indexes : List (Option Index)) : Type 0 where
  pub each : (n : ℕ) (x : Index) → slice_get indexes n ≡ Some (Some x) → IsIndexOf conditions n (slice_index_or items n []) x

-- what is known of the conditions before the walk
pub record IsReady (conditions : List Expr) (items : List (List Tuple)) (p : Plan) : Type 0 where
  pub deciders : All (IsDecider conditions) p.deciders.items
  pub indexes : AllServe conditions items p.indexes.items

-- Of the next item, behind `front`, the index names the rows that have one value, from the first on; at each other row the walk is idle.
pub record IsStart (conditions : List Expr) (items : List (List Tuple)) (front : Places) (rows : List Tuple) (x : Index) (at : Option ℕ) : Type 0 where
  pub value : Value
  pub indexed : IsIndexed rows x
  pub idle : (k : ℕ) → k < length rows → matches rows x.lookup.own value k ≡ false → Idle conditions items (front ++ k ∷ [])
  pub first : IsFirst (matches rows x.lookup.own value) 0 (length rows) at

abbrev pub Starts : List (List Tuple) → List (Option Index) → Places → Index → Option ℕ → Type 0
Starts items indexes front x first =
    (conditions : List Expr) → AllServe conditions items indexes → IsStart conditions items front (slice_index_or items (length front) []) x first

-- whatever the conditions are of which the deciders decide
abbrev pub IsIdleBy : List Decider → List (List Tuple) → Places → Type 0
IsIdleBy deciders items places = (conditions : List Expr) → All (IsDecider conditions) deciders → Idle conditions items places

abbrev pub ServesItem : List Decider → ℕ → List Tuple → Option Index → Type 0
ServesItem deciders level rows index = (conditions : List Expr) → All (IsDecider conditions) deciders → IfSome index (λ x. IsIndexOf conditions level rows x)

abbrev pub IndexesServe : List Decider → List (List Tuple) → List (Option Index) → Type 0
IndexesServe deciders items indexes = (conditions : List Expr) → All (IsDecider conditions) deciders → AllServe conditions items indexes
