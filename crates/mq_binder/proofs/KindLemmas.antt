-- Kinds of expressions that are within the limit of scales.
use Rattle.std.proofs.Common.{◌≡◌, ℕ, ◌+◌, List, [], ◌∷◌, length, Bool, true, false, not, ◌==◌, Some, Result, Ok, refl, subst, arith}
use Rattle.std.specs.Prelude.{max, min, nat_le, nat_lt, if◌then◌else◌}
use Rattle.std.proofs.lemmas.Bool.Decides.{nat_tests}
use Rattle.mq_values.specs.declared.faults.Refused.{Refused}
use Rattle.mq_values.specs.declared.limits.TheConstants.{MAX_SCALE, MIN_QUOTIENT_SCALE}
use Rattle.mq_values.specs.declared.operators.Agg.{Agg}
use Rattle.mq_values.specs.declared.operators.Agg.TheVariants as agg
use Rattle.mq_values.specs.declared.operators.Func.{Func}
use Rattle.mq_values.specs.declared.operators.Func.TheVariants as func
use Rattle.mq_values.specs.declared.operators.ProdOp.{ProdOp}
use Rattle.mq_values.specs.declared.operators.ProdOp.TheVariants.{Mul, Div}
use Rattle.mq_values.specs.declared.operators.SumOp.{SumOp}
use Rattle.mq_values.specs.declared.operators.SumOp.TheVariants.{Add, Sub, Join}
use Rattle.mq_values.specs.declared.value.Kind.{Kind}
use Rattle.mq_values.specs.declared.value.Kind.TheVariants as column
use Rattle.mq_ir.specs.declared.limit_numbers.TheConstants.{LIMIT_OF_SCALE}
use Rattle.mq_ir.specs.FitsExpression.{call_fits, kind_fits}
use Rattle.mq_ir.specs.Results.{◌>>=◌}
use Rattle.mq_bind_scopes.specs.declared.kinds.ExprKind.{ExprKind}
use Rattle.mq_bind_scopes.specs.declared.kinds.ExprKind.TheVariants as kind
use Rattle.mq_bind_scopes.specs.Kinds.{column_kind, common_from, is_condition_kind, is_day_count, is_null_kind, number_scale, of_column, operand_scale, wider}
use Rattle.mq_bind_scopes.specs.OperatorKinds.{added_kind, aggregate_kind, call_kind, cast_kind, chain_kind, is_castable, numbers_kind, product_kind, product_scale, shifted_kind, subtracted_kind, sum_kind}
use Rattle.mq_bind_scopes.specs.Refusals.{kind_mismatch, limit, refused_where}
use Rattle.mq_binder.specs.Literals.{is_within}
use Rattle.mq_binder.proofs.FitStepLemmas.{Each, both, just_is, ok_is, passed, right_of, was_not, went}

abbrev pub Within : ExprKind → Type 0
Within k = is_within k ≡ true

kind_is : (k l : ExprKind) → ◌≡◌ {A = Result ExprKind Refused} (Ok k) (Ok l) → Within k → Within l
kind_is k l h w = subst Within (ok_is k l h) w

larger : (s t : ℕ) → nat_le s MAX_SCALE ≡ true → nat_le t MAX_SCALE ≡ true → nat_le (max s t) MAX_SCALE ≡ true
larger s t h k = grind (arith, nat_tests)

pub wider_within : (k l m : ExprKind) → wider k l ≡ Ok m → Within k → Within l → Within m
wider_within (kind.Number s) (kind.Number t) m h v w = kind_is (kind.Number (max s t)) m h (larger s t v w)
wider_within (kind.Number s) kind.Null m h v w = kind_is (kind.Number s) m h v
wider_within (kind.Number s) kind.Text m h v w = absurd cc
wider_within (kind.Number s) kind.Date m h v w = absurd cc
wider_within (kind.Number s) kind.Condition m h v w = absurd cc
wider_within kind.Text kind.Text m h v w = kind_is kind.Text m h refl
wider_within kind.Text kind.Null m h v w = kind_is kind.Text m h refl
wider_within kind.Text (kind.Number t) m h v w = absurd cc
wider_within kind.Text kind.Date m h v w = absurd cc
wider_within kind.Text kind.Condition m h v w = absurd cc
wider_within kind.Date kind.Date m h v w = kind_is kind.Date m h refl
wider_within kind.Date kind.Null m h v w = kind_is kind.Date m h refl
wider_within kind.Date (kind.Number t) m h v w = absurd cc
wider_within kind.Date kind.Text m h v w = absurd cc
wider_within kind.Date kind.Condition m h v w = absurd cc
wider_within kind.Null (kind.Number t) m h v w = kind_is (kind.Number t) m h w
wider_within kind.Null kind.Text m h v w = kind_is kind.Text m h refl
wider_within kind.Null kind.Date m h v w = kind_is kind.Date m h refl
wider_within kind.Null kind.Null m h v w = kind_is kind.Null m h refl
wider_within kind.Null kind.Condition m h v w = absurd cc
wider_within kind.Condition (kind.Number t) m h v w = absurd cc
wider_within kind.Condition kind.Text m h v w = absurd cc
wider_within kind.Condition kind.Date m h v w = absurd cc
wider_within kind.Condition kind.Null m h v w = absurd cc
wider_within kind.Condition kind.Condition m h v w = absurd cc

pub common_within : (k : ExprKind) (ks : List ExprKind) (m : ExprKind) → common_from k ks ≡ Ok m → Within k → Each Within ks → Within m
common_within k [] m h v w = kind_is k m h v
common_within k (l ∷ ls) m h v w =
    let g = went (wider k l) (λ m. common_from m ls) m h in
    common_within g.value ls m g.after (wider_within k l g.value g.first v w.0) w.1

scale_is : (s t : ℕ) → ◌≡◌ {A = Result ℕ Refused} (Ok s) (Ok t) → nat_le s MAX_SCALE ≡ true → nat_le t MAX_SCALE ≡ true
scale_is s t h w = subst (λ (n : ℕ). nat_le n MAX_SCALE ≡ true) (ok_is s t h) w

pub scale_within : (k : ExprKind) (s : ℕ) → number_scale k ≡ Ok s → Within k → nat_le s MAX_SCALE ≡ true
scale_within (kind.Number t) s h w = scale_is t s h w
scale_within kind.Text s h w = absurd cc
scale_within kind.Date s h w = absurd cc
scale_within kind.Null s h w = absurd cc
scale_within kind.Condition s h w = absurd cc

operand_within : (k : ExprKind) (s : ℕ) → operand_scale k ≡ Ok s → Within k → nat_le s MAX_SCALE ≡ true
operand_within (kind.Number t) s h w = scale_is t s h w
operand_within kind.Null s h w = scale_is 0 s h refl
operand_within kind.Text s h w = absurd cc
operand_within kind.Date s h w = absurd cc
operand_within kind.Condition s h w = absurd cc

numbers_within : (k l m : ExprKind) → numbers_kind k l ≡ Ok m → Within k → Within l → Within m
numbers_within k l m h v w =
    let a = went (operand_scale k) (λ s. operand_scale l >>= (λ t. Ok (kind.Number (max s t)))) m h in
    let b = went (operand_scale l) (λ t. Ok (kind.Number (max a.value t))) m a.after in
    kind_is (kind.Number (max a.value b.value)) m b.after (larger a.value b.value (operand_within k a.value a.first v) (operand_within l b.value b.first w))

shifted_within : (days m : ExprKind) → shifted_kind days ≡ Ok m → Within m
shifted_within days m h = let p = passed (not (is_day_count days)) kind_mismatch (Ok kind.Date) m h in kind_is kind.Date m p.after refl

added_within : (k l m : ExprKind) → added_kind k l ≡ Ok m → Within k → Within l → Within m
added_within kind.Date l m h v w = shifted_within l m h
added_within k kind.Date m h v w = shifted_within k m h
added_within k l m h v w = numbers_within k l m h v w

subtracted_within : (k l m : ExprKind) → subtracted_kind k l ≡ Ok m → Within k → Within l → Within m
subtracted_within kind.Date kind.Date m h v w = kind_is (kind.Number 0) m h refl
subtracted_within kind.Date l m h v w = shifted_within l m h
subtracted_within k l m h v w = numbers_within k l m h v w

pub sum_within : (op : SumOp) (k l m : ExprKind) → sum_kind op k l ≡ Ok m → Within k → Within l → Within m
sum_within Add k l m h v w = added_within k l m h v w
sum_within Sub k l m h v w = subtracted_within k l m h v w
sum_within Join k l m h v w =
    let p = passed (is_condition_kind k) kind_mismatch (refused_where (is_condition_kind l) kind_mismatch (Ok kind.Text)) m h in
    let q = passed (is_condition_kind l) kind_mismatch (Ok kind.Text) m p.after in
    kind_is kind.Text m q.after refl

smaller : (n : ℕ) → nat_le (min n MAX_SCALE) MAX_SCALE ≡ true
smaller n = grind (arith, nat_tests)

product_fits : (op : ProdOp) (s t : ℕ) → nat_le s MAX_SCALE ≡ true → nat_le t MAX_SCALE ≡ true → nat_le (product_scale op s t) MAX_SCALE ≡ true
product_fits Mul s t h k = smaller (s + t)
product_fits Div s t h k = larger (max s t) MIN_QUOTIENT_SCALE (larger s t h k) refl

pub product_within : (op : ProdOp) (k l m : ExprKind) → product_kind op k l ≡ Ok m → Within k → Within l → Within m
product_within op k l m h v w =
    let a = went (operand_scale k) (λ s. operand_scale l >>= (λ t. Ok (kind.Number (product_scale op s t)))) m h in
    let b = went (operand_scale l) (λ t. Ok (kind.Number (product_scale op a.value t))) m a.after in
    kind_is (kind.Number (product_scale op a.value b.value)) m b.after (product_fits op a.value b.value (operand_within k a.value a.first v) (operand_within l b.value b.first w))

pub chain_within : {Op : Type 0} (combined : Op → ExprKind → ExprKind → Result ExprKind Refused) → ((op : Op) (k l m : ExprKind) → combined op k l ≡ Ok m → Within k → Within l → Within m)
    → (k : ExprKind) (terms : List (Op × ExprKind)) (m : ExprKind) → chain_kind combined k terms ≡ Ok m → Within k → Each (λ (t : Op × ExprKind). Within t.1) terms → Within m
chain_within combined step k [] m h v w = kind_is k m h v
chain_within combined step k (term ∷ terms) m h v w =
    let g = went (combined term.0 k term.1) (λ l. chain_kind combined l terms) m h in
    chain_within combined step g.value terms m g.after (step term.0 k term.1 g.value g.first v w.0) w.1

pub column_within : (k : Kind) → kind_fits k ≡ true → Within (of_column k)
column_within column.Int h = refl
column_within (column.Decimal s) h = right_of (nat_lt 0 s) (nat_le s MAX_SCALE) h
column_within column.Text h = refl
column_within column.Date h = refl

pub cast_within : (to : Kind) (k m : ExprKind) → cast_kind to k ≡ Ok m → (kind_fits to ≡ true) × Within m
cast_within to k m h =
    let p = passed (not (is_castable k to)) kind_mismatch (refused_where (not (kind_fits to)) (limit LIMIT_OF_SCALE) (Ok (of_column to))) m h in
    let q = passed (not (kind_fits to)) (limit LIMIT_OF_SCALE) (Ok (of_column to)) m p.after in
    let f = was_not (kind_fits to) q.holds_not in
    (f, kind_is (of_column to) m q.after (column_within to f))

pub aggregate_within : (f : Agg) (k m : ExprKind) → aggregate_kind f k ≡ Ok m → Within k → Within m
aggregate_within agg.Sum k m h w =
    let g = went (number_scale k) (λ s. Ok (kind.Number s)) m h in kind_is (kind.Number g.value) m g.after (scale_within k g.value g.first w)
aggregate_within agg.Avg k m h w =
    let g = went (number_scale k) (λ s. Ok (kind.Number (max s MIN_QUOTIENT_SCALE))) m h in
    kind_is (kind.Number (max g.value MIN_QUOTIENT_SCALE)) m g.after (larger g.value MIN_QUOTIENT_SCALE (scale_within k g.value g.first w) refl)
aggregate_within agg.Count k m h w =
    let p = passed (is_condition_kind k) kind_mismatch (Ok (kind.Number 0)) m h in kind_is (kind.Number 0) m p.after refl
aggregate_within agg.Min k m h w =
    let p = passed (is_null_kind k) kind_mismatch (refused_where (is_condition_kind k) kind_mismatch (Ok k)) m h in
    let q = passed (is_condition_kind k) kind_mismatch (Ok k) m p.after in kind_is k m q.after w
aggregate_within agg.Max k m h w =
    let p = passed (is_null_kind k) kind_mismatch (refused_where (is_condition_kind k) kind_mismatch (Ok k)) m h in
    let q = passed (is_condition_kind k) kind_mismatch (Ok k) m p.after in kind_is k m q.after w

-- a call: its kind, and the number of its arguments
abbrev Called : Func → ℕ → ExprKind → Type 0
Called f n m = (call_fits f n ≡ true) × Within m

pub call_within : (f : Func) (ks : List ExprKind) (m : ExprKind) → call_kind f ks ≡ Ok m → Each Within ks → Called f (length ks) m
call_within f [] m h w = absurd cc
call_within func.Abs (k ∷ []) m h w =
    let g = went (number_scale k) (λ s. Ok (kind.Number s)) m h in (refl, kind_is (kind.Number g.value) m g.after (scale_within k g.value g.first w.0))
call_within func.Floor (k ∷ []) m h w = let g = went (number_scale k) (λ s. Ok (kind.Number 0)) m h in (refl, kind_is (kind.Number 0) m g.after refl)
call_within func.Length (kind.Text ∷ []) m h w = (refl, kind_is (kind.Number 0) m h refl)
call_within func.Length (kind.Number s ∷ []) m h w = absurd cc
call_within func.Length (kind.Date ∷ []) m h w = absurd cc
call_within func.Length (kind.Null ∷ []) m h w = absurd cc
call_within func.Length (kind.Condition ∷ []) m h w = absurd cc
call_within (func.Round scale) (k ∷ []) m h w =
    let g = went (number_scale k) (λ s. refused_where (not (nat_le scale MAX_SCALE)) (limit LIMIT_OF_SCALE) (Ok (kind.Number scale))) m h in
    let p = passed (not (nat_le scale MAX_SCALE)) (limit LIMIT_OF_SCALE) (Ok (kind.Number scale)) m g.after in
    let f = was_not (nat_le scale MAX_SCALE) p.holds_not in
    (both (nat_le scale MAX_SCALE) true f refl, kind_is (kind.Number scale) m p.after f)
call_within func.Nvl (k ∷ []) m h w = absurd cc
call_within func.Nvl (k ∷ l ∷ []) m h w = (refl, common_within kind.Null (k ∷ l ∷ []) m h refl w)
call_within func.Abs (k ∷ l ∷ []) m h w = absurd cc
call_within func.Floor (k ∷ l ∷ []) m h w = absurd cc
call_within func.Length (k ∷ l ∷ []) m h w = absurd cc
call_within (func.Round scale) (k ∷ l ∷ []) m h w = absurd cc
call_within f (k ∷ l ∷ n ∷ ks) m h w = absurd cc

-- the kind of a column that holds such values
number_column : (s : ℕ) (zero : Bool) → (s == 0) ≡ zero → nat_le s MAX_SCALE ≡ true → kind_fits (if zero then column.Int else column.Decimal s) ≡ true
number_column s true e w = refl
number_column s false e w = both (nat_lt 0 s) (nat_le s MAX_SCALE) (grind (arith, nat_tests)) w

pub column_fits : (k : ExprKind) (to : Kind) → column_kind k ≡ Some to → Within k → kind_fits to ≡ true
column_fits (kind.Number s) to h w =
    subst (λ (t : Kind). kind_fits t ≡ true) (just_is (if (s == 0) then column.Int else column.Decimal s) to h) (number_column s (s == 0) refl w)
column_fits kind.Text to h w = subst (λ (t : Kind). kind_fits t ≡ true) (just_is column.Text to h) refl
column_fits kind.Date to h w = subst (λ (t : Kind). kind_fits t ≡ true) (just_is column.Date to h) refl
column_fits kind.Null to h w = absurd cc
column_fits kind.Condition to h w = absurd cc
