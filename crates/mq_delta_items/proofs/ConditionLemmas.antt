-- The conditions of a query one after another.
use Rattle.std.proofs.Common.{◌≡◌, Bool, true, false, List, [], ◌∷◌, ◌++◌, Option, Result, Ok, Err, refl, sym, ap, subst, ◌∙◌}
use Rattle.std.specs.Prelude.{if◌then◌else◌}
use Rattle.std.specs.List.{filter_map}
use Rattle.std.specs.Option.{option_to_list}
use Rattle.mq_values.specs.Answers.{Gives}
use Rattle.mq_values.specs.Truth.{is_true}
use Rattle.mq_values.specs.declared.faults.ValueFault.{ValueFault}
use Rattle.mq_values.specs.declared.memory.Fail.{Fail}
use Rattle.mq_ir.specs.declared.expression.Expr.{Expr}
use Rattle.mq_ir.specs.declared.expression.Leaf.{Leaf}
use Rattle.mq_ir.specs.declared.query.FromPart.{FromPart}
use Rattle.mq_ir.specs.BaseRows.{all_true, conditions_of}
use Rattle.mq_ir.specs.Expression.{Outcome, holds}
use Rattle.mq_ir.specs.Results.{◌>>=◌}
use Rattle.mq_scalar.specs.WalkLaws.{fault_is_last}

module _ (leaves : Leaf → Outcome) where
  abbrev and_then : List Expr → Result Bool ValueFault → Result Bool ValueFault
  and_then es found = found >>= (λ t. if t then all_true leaves es else Ok false)

  -- some conditions and then others
  pub all_append : (es fs : List Expr) → all_true leaves (es ++ fs) ≡ and_then fs (all_true leaves es)
  all_append [] fs = refl
  all_append (e ∷ es) fs = by (holds leaves e) (all_append es fs)
    where
      turned : (b : Bool) → all_true leaves (es ++ fs) ≡ and_then fs (all_true leaves es)
          → (if b then all_true leaves (es ++ fs) else Ok false) ≡ and_then fs (if b then all_true leaves es else Ok false)
      turned true h = h
      turned false h = refl

      by : (o : Result (Option Bool) ValueFault) → all_true leaves (es ++ fs) ≡ and_then fs (all_true leaves es)
          → (o >>= (λ t. if is_true t then all_true leaves (es ++ fs) else Ok false)) ≡ and_then fs (o >>= (λ t. if is_true t then all_true leaves es else Ok false))
      by (Ok t) h = turned (is_true t) h
      by (Err fault) h = refl

  first_true : (es fs : List Expr) → all_true leaves es ≡ Ok true → all_true leaves (es ++ fs) ≡ all_true leaves fs
  first_true es fs h = all_append es fs ∙ ap (and_then fs) h

  first_false : (es fs : List Expr) → all_true leaves es ≡ Ok false → all_true leaves (es ++ fs) ≡ Ok false
  first_false es fs h = all_append es fs ∙ ap (and_then fs) h

  first_exit : (es fs : List Expr) (e : Fail ValueFault) → Gives {T = Bool} (Err e) (all_true leaves es)
      → Gives {T = Bool} (Err e) (all_true leaves (es ++ fs))
  first_exit es fs e h =
      fault_is_last (all_true leaves es) (all_true leaves (es ++ fs)) e h (λ fault is. all_append es fs ∙ ap (and_then fs) is)

  -- ---- the ON conditions, of which some items have none
  abbrev stated : List (Option Expr) → List Expr
  stated ons = filter_map (λ (on : Option Expr). on) ons

  -- ---- and then WHERE
  module _ (from : FromPart) (ons : List (Option Expr)) (same : ons ≡ from.ons) where
    abbrev behind : List Expr
    behind = option_to_list from.filter

    pub ons_true : all_true leaves (stated ons) ≡ Ok true → all_true leaves (conditions_of from) ≡ all_true leaves behind
    ons_true h = first_true (stated from.ons) behind (ap (λ (l : List (Option Expr)). all_true leaves (stated l)) (sym same) ∙ h)

    pub ons_false : all_true leaves (stated ons) ≡ Ok false → all_true leaves (conditions_of from) ≡ Ok false
    ons_false h = first_false (stated from.ons) behind (ap (λ (l : List (Option Expr)). all_true leaves (stated l)) (sym same) ∙ h)

    pub ons_exit : (e : Fail ValueFault) → Gives {T = Bool} (Err e) (all_true leaves (stated ons))
        → Gives {T = Bool} (Err e) (all_true leaves (conditions_of from))
    ons_exit e h =
        first_exit (stated from.ons) behind e (subst (λ (l : List (Option Expr)). Gives {T = Bool} (Err e) (all_true leaves (stated l))) same h)
