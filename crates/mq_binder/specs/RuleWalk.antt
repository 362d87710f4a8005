-- The rules of a model: each its measure, its left side, its ORDER BY and its right side; and then UNTIL.
use Rattle.std.specs.Prelude.{ℕ, List, [], ◌∷◌, Bool, not, ◌||◌, Result, Ok, unwrap_or}
use Rattle.std.specs.Option.{ok_or}
use Rattle.mq_lexer.specs.Words.{folded}
use Rattle.mq_values.specs.declared.faults.Refused.{Refused}
use Rattle.mq_values.specs.declared.operators.Mode.{Mode}
use Rattle.mq_ast.specs.declared.queries.OrderKey.{OrderKey}
use Rattle.mq_ast.specs.declared.queries.RuleTree.{RuleTree}
use Rattle.mq_ir.specs.declared.catalog.Catalog.{Catalog}
use Rattle.mq_ir.specs.declared.query.Left.{Left}
use Rattle.mq_ir.specs.declared.query.PlainPart.{PlainPart}
use Rattle.mq_ir.specs.declared.query.Rule.{Rule}
use Rattle.mq_ir.specs.Results.{◌>>=◌, each}
use Rattle.mq_binder.specs.declared.found.LeftFound.{LeftFound}
use Rattle.mq_bind_scopes.specs.declared.kinds.ExprKind.{ExprKind}
use Rattle.mq_bind_scopes.specs.declared.misuse_numbers.TheConstants.{MISUSE_OF_ORDER}
use Rattle.mq_bind_scopes.specs.declared.scopes.Found.{Found}
use Rattle.mq_bind_scopes.specs.declared.scopes.Part.TheVariants as part
use Rattle.mq_bind_scopes.specs.declared.scopes.Scope.{Scope}
use Rattle.mq_bind_expr.specs.ExpressionWalk.{bound}
use Rattle.mq_bind_scopes.specs.Kinds.{is_assignable}
use Rattle.mq_binder.specs.LeftWalk.{dimension_called, left_bound}
use Rattle.mq_bind_scopes.specs.Names.{called}
use Rattle.mq_bind_scopes.specs.Positions.{standing}
use Rattle.mq_bind_expr.specs.Steps.{each_with}
use Rattle.mq_bind_scopes.specs.Refusals.{kind_mismatch, misuse, refused_where}
use Rattle.mq_bind_scopes.specs.SymbolicSides.{is_symbolic}

-- a key of ORDER BY on a left side is a dimension
abbrev pub left_key : Scope → OrderKey → Result (ℕ × Bool) Refused
left_key scope key = ok_or (dimension_called scope key.name) (misuse MISUSE_OF_ORDER) >>= (λ n. Ok (n, key.desc))

-- ORDER BY wants a symbolic item, and no AUTOMATIC ORDER
abbrev pub left_order : Scope → Bool → Left → List OrderKey → Result (List (ℕ × Bool)) Refused
left_order scope auto l [] = Ok []
left_order scope auto l (key ∷ keys) =
    refused_where (auto || not (is_symbolic l)) (misuse MISUSE_OF_ORDER) (each (left_key scope) (key ∷ keys))

-- the value goes into the measure
abbrev pub right_bound : Scope → ExprKind → RuleTree → Result Found Refused
right_bound scope measure r =
    bound scope r.right (standing part.Right) >>= (λ f. refused_where (not (is_assignable measure f.kind)) kind_mismatch (Ok f))

abbrev pub rule_of : Mode → RuleTree → ℕ → Left → List (ℕ × Bool) → Found → Rule
rule_of mode r measure l order right = record { mode = unwrap_or r.mode mode; measure = measure; left = l; order = order; right = right.e }

-- what stands behind the measure and the left side
abbrev pub rule_behind : Scope → Mode → Bool → RuleTree → ℕ × ExprKind → LeftFound → Result (Rule × List PlainPart) Refused
rule_behind scope mode auto r measure l =
    left_order scope auto l.left r.order >>= (λ order.
    right_bound scope measure.1 r >>= (λ right. Ok (rule_of mode r measure.0 l.left order right, l.lists)))

-- a rule, behind these subqueries, with the subqueries up to its end
abbrev pub rule_bound : Catalog → Scope → Mode → Bool → List PlainPart → RuleTree → Result (Rule × List PlainPart) Refused
rule_bound catalog scope mode auto lists r =
    called (folded r.measure) scope.model.measures >>= (λ measure.
    left_bound catalog scope lists r.left >>= rule_behind scope mode auto r measure)

abbrev pub rules_bound : Catalog → Scope → Mode → Bool → List RuleTree → Result (List Rule × List PlainPart) Refused
rules_bound catalog scope mode auto = each_with (rule_bound catalog scope mode auto) []
