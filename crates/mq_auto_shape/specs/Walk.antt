-- The walk over the rules, where what is assigned is kept in its order.
use Rattle.std.specs.Prelude.{◌≡◌, ◌≤◌, ℕ, Bool, true, false, List, [], ◌∷◌, ◌++◌, length, map, Option, Some, None, Result, Ok, Err, IfOk, IfErr, nat_lt, if◌then◌else◌}
use Rattle.std.specs.List.{AllByRecursion, enumerate_from, insert, list_any}
use Rattle.std.specs.Option.{option_map, option_map_or, option_or}
use Rattle.std.specs.Ordering.{is_gt, is_lt, nat_cmp, ordering_then}
use Rattle.std.specs.declared.cmp.Ordering.{Ordering}
use Rattle.mq_values.specs.declared.faults.FaultKind.TheVariants as kind
use Rattle.mq_values.specs.declared.limits.TheConstants.{MAX_CELLS_OF_PARTITION}
use Rattle.mq_values.specs.Order.{cmp_key}
use Rattle.mq_ir.specs.declared.query.Rule.{Rule}
use Rattle.mq_ir.specs.declared.query.SingleLeft.{SingleLeft}
use Rattle.mq_ir.specs.Keys.{Tuple, is_among}
use Rattle.mq_ir.specs.Partitions.{ascending, placed}
use Rattle.mq_ir.specs.Placed.{Placed, placed_fault}
use Rattle.mq_ir.specs.Ready.{HaveLength, HavePlaces}
use Rattle.mq_ir.specs.Results.{◌>>=◌, each_in_turn}
use Rattle.mq_ir.specs.Shape.{Assignment, Growing, assigns, cmp_assignment, shape_fault}
use Rattle.mq_ir.specs.Targets.{targets}
use Rattle.mq_ir.specs.Unfolding.{Model}
use Rattle.mq_unfold.specs.SingleLefts.{lefts_of}

-- these items put among others, the last of them first
abbrev pub placed_all : {K : Type 0} → (K → K → Ordering) → List K → List K → List K
placed_all cmp [] ys = ys
placed_all cmp (x ∷ xs) ys = placed cmp x (placed_all cmp xs ys)

-- a key that is not had yet, and not among the others
pub record IsFresh (had : Tuple → Bool) (key : Tuple) (others : List Tuple) : Type 0 where
  pub lacking : had key ≡ false
  pub once : is_among others key ≡ false

-- keys that are not had yet, each once
abbrev pub Fresh : (Tuple → Bool) → List Tuple → Type 0
Fresh had [] = Unit {0}
Fresh had (key ∷ keys) = IsFresh had key keys × Fresh had keys

-- keys at which this measure is not assigned yet, each once
abbrev pub AreUnassigned : ℕ → List Assignment → List Tuple → Type 0
AreUnassigned m assigned keys = Fresh (λ key. list_any (assigns m key) assigned) keys

-- each single left side has as many places as each key has values
pub record AreWide (lefts : List SingleLeft) (keys : List Tuple) : Type 0 where
  pub width : ℕ
  pub places : HavePlaces width lefts
  pub values : HaveLength width keys

-- the lesser of two: the first where they are alike or there is no other
abbrev pub sooner_of : {K : Type 0} → (K → K → Ordering) → K → Option K → K
sooner_of cmp x None = x
sooner_of cmp x (Some y) = if is_gt (cmp x y) then y else x

-- the assignment of a measure of a cell by a rule
abbrev pub assigned_by : ℕ → ℕ → Tuple → Assignment
assigned_by m number key = (key, m, number)

-- assigned measures by cell, then measure
abbrev pub cmp_measure : Assignment → Assignment → Ordering
cmp_measure a b = ordering_then (cmp_key a.0 b.0) (nat_cmp a.1 b.1)

-- nodes before this one
abbrev pub AreBefore : Assignment → List Assignment → Type 0
AreBefore x ys = AllByRecursion (λ y. is_lt (cmp_measure y x) ≡ true) ys

-- nodes of which the first is not before this one, or there is none
abbrev pub IsNotBefore : Assignment → List Assignment → Type 0
IsNotBefore x [] = Unit {0}
IsNotBefore x (y ∷ ys) = is_lt (cmp_measure y x) ≡ false

-- what a search among nodes says of a measure: it is there, or it is not, and would be put at this place
pub record Searched (key : Tuple) (m : ℕ) (nodes : List Assignment) (at : Result ℕ ℕ) : Type 0 where
  pub found : IfOk at (λ place. list_any (assigns m key) nodes ≡ true)
  pub within : IfErr at (λ place. place ≤ length nodes)
  pub absent : IfErr at (λ place. list_any (assigns m key) nodes ≡ false)
  pub put : (number : ℕ) → IfErr at (λ place. insert nodes place (key, m, number) ≡ placed cmp_assignment (key, m, number) nodes)

-- why a single left side may not assign its targets: one is assigned again, or there are too many cells
abbrev pub fault_in : ℕ → Option Tuple → ℕ → Option Placed
fault_in number again count =
    option_or (option_map (λ key. placed_fault number key kind.AssignedTwice) again)
    (if nat_lt MAX_CELLS_OF_PARTITION count then Some (placed_fault number [] kind.TooManyCells) else None)

-- one single left side
abbrev pub left_grown : ℕ → Rule → SingleLeft → Growing → Result Growing Placed
left_grown number rule left g =
    let found = targets left rule.mode g.set in
    let set = ascending cmp_key (found.created ++ g.set) in
    option_map_or Err (shape_fault number rule.measure g.assigned found.cells set)
    (Ok (record { set = set; assigned = placed_all cmp_assignment (map (assigned_by rule.measure number) found.cells) g.assigned }))

-- one rule
abbrev pub rule_grown : Model → ℕ × Rule → Growing → Result Growing Placed
rule_grown model (number, rule) g = lefts_of model 0 number rule >>= (λ lefts. each_in_turn (left_grown number rule) lefts g)

-- all rules in text order, numbered from 1
abbrev pub rules_grown : Model → Growing → Result Growing Placed
rules_grown model = each_in_turn (rule_grown model) (enumerate_from 1 model.part.rules)
