-- PRESENTNNV, whose cell is bound once more after its arguments were looked at.
use Rattle.std.proofs.Common.{◌≡◌, ℕ, Bool, true, false, List, [], ◌∷◌, Option, Some, None, Result, Ok, Err, refl, sym, ap, ◌∙◌}
use Rattle.std.specs.Prelude.{slice_get}
use Rattle.mq_values.specs.Answers.{Gives}
use Rattle.mq_values.specs.declared.faults.Refused.{Refused}
use Rattle.mq_values.specs.declared.memory.Fail.{Fail}
use Rattle.mq_ast.specs.declared.expressions.E.{E}
use Rattle.mq_ir.specs.Results.{◌>>=◌, each}
use Rattle.mq_bind_scopes.specs.declared.kinds.ExprKind.{ExprKind}
use Rattle.mq_bind_scopes.specs.declared.scopes.Found.{Found}
use Rattle.mq_bind_scopes.specs.declared.scopes.Position.{Position}
use Rattle.mq_bind_scopes.specs.declared.scopes.Scope.{Scope}
use Rattle.mq_bind_expr.specs.CellNodes.{unless_rule_form}
use Rattle.mq_bind_expr.specs.ExpressionParts.{all_found}
use Rattle.mq_bind_expr.specs.FunctionNodes.{converted}
use Rattle.mq_bind_scopes.specs.Kinds.{mismatch}
use Rattle.mq_bind_scopes.specs.Misuses.{outside_rules}
use Rattle.mq_bind_expr.specs.NameNodes.{a_value}
use Rattle.mq_bind_expr.specs.PartWalks.{presentnnv_found}
use Rattle.mq_bind_scopes.specs.Positions.{inner}
use Rattle.mq_bind_expr.specs.PresenceForms.{presence_asked}
use Rattle.mq_bind_expr.specs.RuleNodes.{presence_kind, presentnnv_node, presentnnv_of, single_cell}
use Rattle.mq_bind_expr.specs.StepLemmas.{fault_is_last}

-- two in a row
abbrev paired : {A C E : Type 0} → A → C → Result (A × C) E
paired a c = Ok (a, c)

asked_first : {A B C D E : Type 0} (k : Result A E) (s : Result B E) (f : B → C) (g : A → B → D) →
    (k >>= (λ a. s >>= (λ b. Ok (g a b)))) ≡ ((k >>= (λ a. (s >>= (λ b. Ok (f b))) >>= paired a)) >>= (λ q. k >>= (λ a. s >>= (λ b. Ok (g a b)))))
asked_first (Err x) s f g = refl
asked_first (Ok a) (Err x) f g = refl
asked_first (Ok a) (Ok b) f g = refl

other_asked : {A B : Type 0} (test : Bool) (next : A → Result B Refused) → unless_rule_form {A = B} test mismatch ≡ (unless_rule_form {A = A} test mismatch >>= next)
other_asked true next = refl
other_asked false next = refl

-- what it asks of its arguments comes first
asked_is : (at : Position) (found : List Found) → presentnnv_node at found ≡ (presence_asked at found >>= (λ q. presentnnv_node at found))
asked_is at [] = other_asked (outside_rules at) (λ q. presentnnv_node at [])
asked_is at (c ∷ []) = other_asked (outside_rules at) (λ q. presentnnv_node at (c ∷ []))
asked_is at (c ∷ a ∷ []) = other_asked (outside_rules at) (λ q. presentnnv_node at (c ∷ a ∷ []))
asked_is at (c ∷ a ∷ b ∷ []) =
    asked_first (presence_kind at a.kind b.kind) (single_cell c.e) (λ cell. cell.0)
    (λ k cell. a_value (presentnnv_of cell.0 cell.1 (converted k a.e) (converted k b.e)) k)
asked_is at (c ∷ a ∷ b ∷ d ∷ ds) = other_asked (outside_rules at) (λ q. presentnnv_node at (c ∷ a ∷ b ∷ d ∷ ds))

pub asked_fault : (at : Position) (found : List Found) (fault : Refused) → presence_asked at found ≡ Err fault → presentnnv_node at found ≡ Err fault
asked_fault at found fault h = asked_is at found ∙ ap (λ r. r >>= (λ q. presentnnv_node at found)) h

-- so what that call refuses is refused
pub asked_exit : (scope : Scope) (at within : Position) (es : List E) (found lent : List Found) (e : Fail Refused) →
    within ≡ inner at → all_found scope within es ≡ Ok found → lent ≡ found →
    Gives {T = ExprKind × ℕ} (Err e) (presence_asked at lent) → Gives {T = Found} (Err e) (presentnnv_found scope at es)
asked_exit scope at within es found lent e w h l g =
    fault_is_last (presence_asked at lent) (presentnnv_found scope at es) e g
    (λ fault is.
    ap (λ p. all_found scope p es >>= presentnnv_node at) (sym w) ∙ ap (λ r. r >>= presentnnv_node at) h
    ∙ asked_fault at found fault (ap (presence_asked at) (sym l) ∙ is))

first_of : {B E : Type 0} → Result (List B) E → Option B
first_of (Ok ys) = slice_get ys 0
first_of (Err e) = None

given : {B E : Type 0} → Result B E → Option B
given (Ok y) = Some y
given (Err e) = None

again : {B E : Type 0} (first : Result B E) (rest : Result (List B) E) (ys : List B) (y : B) → (first >>= (λ y. rest >>= (λ zs. Ok (y ∷ zs)))) ≡ Ok ys → first ≡ Ok y → slice_get ys 0 ≡ Some y
unfolding first_of given
again (Err e) rest ys y a g = absurd (cc)
again (Ok b) (Err e) ys y a g = absurd (cc)
again (Ok b) (Ok zs) ys y a g = ap first_of (sym a) ∙ ap given g

-- the first item of what a list gave is what its first item gives
pub first_again : {A B E : Type 0} (f : A → Result B E) (x : A) (xs : List A) (ys : List B) (y : B) → each f (x ∷ xs) ≡ Ok ys → f x ≡ Ok y → slice_get ys 0 ≡ Some y
first_again f x xs ys y a g = again (f x) (each f xs) ys y a g

no_fault : {B C E : Type 0} (ys : List B) (fault : E) (outer : Result C E) → Ok ys ≡ Err fault → outer ≡ Err fault
no_fault ys fault outer h = absurd (cc)

-- so where the list gave all, its first item does not offend
pub again_exit : {A B C E : Type 0} (f : A → Result B E) (x : A) (xs : List A) (ys : List B) (outer : Result C E) (e : Fail E) → each f (x ∷ xs) ≡ Ok ys → Gives {T = B} (Err e) (f x) → Gives {T = C} (Err e) outer
again_exit f x xs ys outer e a g =
    fault_is_last (f x) outer e g
    (λ fault is. no_fault ys fault outer (sym a ∙ ap (λ r. r >>= (λ y. each f xs >>= (λ zs. Ok (y ∷ zs)))) is))
