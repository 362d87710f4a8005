-- Indices of the common forms, and numbers that have their scale already.
use Rattle.std.proofs.Common.{◌≡◌, ℕ, ◌-◌, ◌^◌, ◌≤◌, true, ℤ, pos, ◌*ℤ◌, List, Ok, Err, refl, ap, ◌∙◌, subst, arith, if◌then◌else◌}
use Rattle.std.proofs.Math.IntN.{*ℤ-one}
use Rattle.std.proofs.Math.Nat.{sub_self}
use Rattle.std.proofs.lemmas.Bool.Decides.{nat_tests}
use Rattle.std.specs.Prelude.{nat_le}
use lib.IntN.{one}
use Rattle.mq_values.specs.Answers.{result_map}
use Rattle.mq_values.specs.Arithmetic.{in_range, rescaled, rounded}
use Rattle.mq_values.specs.Convert.{number_at}
use Rattle.mq_values.specs.Number.{Number, is_mantissa, mant_at}
use Rattle.mq_values.specs.declared.faults.ValueFault.TheVariants.{Overflow}
use Rattle.mq_values.specs.declared.limits.TheConstants.{MAX_SCALE}
use Rattle.mq_values.specs.declared.value.Value.{Value}
use Rattle.mq_values.specs.declared.value.Value.TheVariants as value
use Rattle.mq_ir.specs.declared.expression.BoundSum.{BoundSum}
use Rattle.mq_ir.specs.declared.expression.Expr.{Expr}
use Rattle.mq_ir.specs.declared.expression.Expr.TheVariants as expr
use Rattle.mq_ir.specs.declared.expression.Leaf.{Leaf}
use Rattle.mq_ir.specs.Expression.{Outcome, ev}
use Rattle.mq_ir.specs.ExpressionLaws.{worth_leaf, worth_lit, worth_sum}
use Rattle.mq_ir.specs.Reads.{Site, inner_leaves}
use Rattle.mq_ir.specs.Worth.{a_value, as_value}
use Rattle.mq_refs.specs.Sites.{total_of}

value_back : (r : Outcome) → as_value (a_value r) ≡ r
value_back (Ok v) = refl
value_back (Err fault) = refl

module _ (site : Site) where
  abbrev worth : Expr → Outcome
  worth = ev (inner_leaves site)

  pub plain_lit : (v : Value) → worth (expr.Lit v) ≡ Ok v
  plain_lit v = ap as_value (worth_lit (inner_leaves site) v)

  pub plain_leaf : (l : Leaf) → worth (expr.Leaf l) ≡ inner_leaves site l
  plain_leaf l = ap as_value (worth_leaf (inner_leaves site) l) ∙ value_back (inner_leaves site l)

  pub plain_sum : (first : Expr) (terms : List BoundSum) → worth (expr.Sum first terms) ≡ total_of site first terms
  plain_sum first terms = ap as_value (worth_sum (inner_leaves site) first terms) ∙ value_back (total_of site first terms)

-- all of them together
pub ruleset plain_laws = (plain_lit, plain_leaf, plain_sum)

pub one_factor : (z : ℤ) → z *ℤ pos 1 ≡ z
unfolding one
one_factor z = *ℤ-one z

at_own : (n : Number) → is_mantissa n.mant ≡ true → n.scale ≤ MAX_SCALE → number_at n n.scale ≡ Ok (value.Num n)
at_own n h l =
    let below : nat_le n.scale MAX_SCALE ≡ true = grind (arith, nat_tests, l) in
    let same : nat_le n.scale n.scale ≡ true = grind (arith, nat_tests) in
    let k : mant_at n.scale n ≡ n.mant = ap (λ d. n.mant *ℤ pos (10 ^ d)) (sub_self n.scale) ∙ one_factor n.mant in
    ap (λ b. if b then result_map value.Num (rescaled n n.scale) else Ok value.Null) below
    ∙ ap (λ b. result_map value.Num (in_range (if b then mant_at n.scale n else rounded n.mant (pos (10 ^ (n.scale - n.scale)))) n.scale)) same
    ∙ ap (λ z. result_map value.Num (in_range z n.scale)) k
    ∙ ap (λ b. result_map value.Num (if b then Ok n else Err Overflow)) h

-- a number that is brought to the scale that it has
pub kept : (n : Number) (s : ℕ) → n.scale ≡ s → is_mantissa n.mant ≡ true → n.scale ≤ MAX_SCALE → number_at n s ≡ Ok (value.Num n)
kept n s same h l = subst (λ s. number_at n s ≡ Ok (value.Num n)) same (at_own n h l)

-- numbers of the same mantissa and scale
pub same_parts : (m n : Number) → m.mant ≡ n.mant → m.scale ≡ n.scale → value.Num m ≡ value.Num n
same_parts m n e f = λ i. value.Num (record { mant = e i; scale = f i })
