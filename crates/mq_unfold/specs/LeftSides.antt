-- What unfolding a rule gives, by the number of the rule, and the faults by which it ends.
use Rattle.std.specs.Prelude.{◌≡◌, ℕ, zero, suc, ◌==◌, List, [], length, nat_lt, Option, None, slice_get, Result, Ok, Err, if◌then◌else◌}
use Rattle.std.specs.List.{find, zip}
use Rattle.std.specs.Option.{option_map_or}
use Rattle.mq_values.specs.declared.faults.FaultKind.{FaultKind}
use Rattle.mq_values.specs.declared.faults.FaultKind.TheVariants.{TooManyUnfolded}
use Rattle.mq_values.specs.declared.faults.ValueFault.{ValueFault}
use Rattle.mq_values.specs.declared.limits.TheConstants.{MAX_SINGLE_LEFT_SIDES}
use Rattle.mq_values.specs.declared.memory.Fail.{Fail}
use Rattle.mq_values.specs.declared.memory.Fail.TheVariants as fail
use Rattle.mq_values.specs.declared.value.Value.TheVariants as value
use Rattle.mq_ir.specs.declared.query.Rule.{Rule}
use Rattle.mq_ir.specs.declared.query.SingleLeft.{SingleLeft}
use Rattle.mq_ir.specs.declared.query.SinglePlace.{SinglePlace}
use Rattle.mq_ir.specs.declared.query.SinglePlace.TheVariants as place
use Rattle.mq_ir.specs.Placed.{kind_of}
use Rattle.mq_ir.specs.Results.{◌>>=◌, marked}
use Rattle.mq_ir.specs.Unfolding.{Model, unfold_rule}
use Rattle.mq_unfold.specs.declared.left_sides.UnfoldFault.{UnfoldFault}
use Rattle.mq_unfold.specs.declared.left_sides.UnfoldFault.TheVariants.{Value, TooMany}

-- the kind of a fault of unfolding
abbrev pub unfold_kind : UnfoldFault → FaultKind
unfold_kind (Value fault) = kind_of fault
unfold_kind TooMany = TooManyUnfolded

-- the call gave what is meant, a fault by its kind, unless memory ran out
abbrev pub Unfolds : {T : Type 0} → Result T (Fail UnfoldFault) → Result T FaultKind → Type 0
Unfolds (Ok x) meant = meant ≡ Ok x
Unfolds (Err (fail.Cause fault)) meant = meant ≡ Err (unfold_kind fault)
Unfolds (Err fail.Memory) meant = Unit {0}

-- the rule of this number, counted from 1
abbrev pub rule_of : List Rule → ℕ → Option Rule
rule_of rules zero = None
rule_of rules (suc n) = slice_get rules n

-- the single left sides of the rule of this number in a turn; a number that no rule has stands for none
abbrev pub left_sides_of : Model → ℕ → ℕ → Result (List SingleLeft) FaultKind
left_sides_of model number turn = option_map_or (λ rule. unfold_rule model rule turn) (rule_of model.part.rules number) (Ok [])

-- the rows that stand for single left sides, where they are no more than there may be
abbrev pub limited : {A : Type 0} → Result (List A) ValueFault → Result (List A) FaultKind
limited rows = marked kind_of rows >>= (λ all. if nat_lt MAX_SINGLE_LEFT_SIDES (length all) then Err TooManyUnfolded else Ok all)

-- the fault of a value, as one of unfolding
abbrev pub raised_of : Fail ValueFault → Fail UnfoldFault
raised_of (fail.Cause fault) = fail.Cause (Value fault)
raised_of fail.Memory = fail.Memory

-- the place that a row has for a dimension
abbrev pub place_named : List ℕ → List SinglePlace → ℕ → SinglePlace
place_named dims row dim =
    option_map_or (λ named. named.1) (find (λ (named : ℕ × SinglePlace). named.0 == dim) (zip dims row)) (place.At value.Null)
