-- The tests of symbolic places, case by case.
use Rattle.std.specs.Prelude.{◌≡◌, List, [], ◌∷◌, map, Result, Ok, refl}
use Rattle.std.proofs.Common.{sym, ap, ◌∙◌}
use Rattle.mq_values.specs.declared.operators.CmpOp.{CmpOp}
use Rattle.mq_values.specs.declared.operators.DimTest.TheVariants as met
use Rattle.mq_values.specs.declared.value.Kind.{Kind}
use Rattle.mq_ir.specs.declared.expression.Expr.{Expr}
use Rattle.mq_ir.specs.declared.expression.Expr.TheOpen as layer
use Rattle.mq_ir.specs.declared.expression.Leaf.{Leaf}
use Rattle.mq_ir.specs.declared.expression.Test.{Test, para-roll-Test}
use Rattle.mq_ir.specs.declared.expression.Test.TheVariants as test
use Rattle.mq_ir.specs.Expression.{Outcome, ev}
use Rattle.mq_ir.specs.Results.{◌>>=◌, each}
use Rattle.mq_ir.specs.Tests.{Tested, converted, layer_tested, test_of}

-- what stands beside each item is what is found of it
each_beside : {A B E : Type 0} (f : A → Result B E) (xs : List A) → each (λ (p : A × Result B E). p.1) (map (λ (x : A). (x, f x)) xs) ≡ each f xs
each_beside f [] = refl
each_beside f (x ∷ xs) = ap (λ r. f x >>= (λ y. r >>= (λ ys. Ok (y ∷ ys)))) (each_beside f xs)

each_alone : {A B E : Type 0} (f : A → Result B E) (xs : List A) → each (λ (p : A × Unit {0}). f p.0) (map (λ (x : A). (x, tt)) xs) ≡ each f xs
each_alone f [] = refl
each_alone f (x ∷ xs) = ap (λ r. f x >>= (λ y. r >>= (λ ys. Ok (y ∷ ys)))) (each_alone f xs)

module _ (leaves : Leaf → Outcome) (kind : Kind) where
  pub test_any : test_of leaves kind test.Any ≡ Ok met.Any
  unfolding test_of
  test_any =
      ap (test_of leaves kind) (sym (test.rolls-Any))
      ∙ para-roll-Test (Unit {0}) (Unit {0}) Tested (Unit {0}) (Unit {0}) (Unit {0}) (λ _. tt) (λ _. tt) (layer_tested leaves kind) (λ _. tt) (λ _. tt) (λ _. tt) layer.Any

  pub test_at : (e : Expr) → test_of leaves kind (test.At e) ≡ (converted leaves kind e >>= (λ v. Ok (met.At v)))
  unfolding test_of
  test_at e =
      ap (test_of leaves kind) (sym (test.rolls-At e))
      ∙ para-roll-Test (Unit {0}) (Unit {0}) Tested (Unit {0}) (Unit {0}) (Unit {0}) (λ _. tt) (λ _. tt) (layer_tested leaves kind) (λ _. tt) (λ _. tt) (λ _. tt) (layer.At e)

  pub test_cmp : (op : CmpOp) (e : Expr) → test_of leaves kind (test.Cmp op e) ≡ (ev leaves e >>= (λ v. Ok (met.Cmp op v)))
  unfolding test_of
  test_cmp op e =
      ap (test_of leaves kind) (sym (test.rolls-Cmp op e))
      ∙ para-roll-Test (Unit {0}) (Unit {0}) Tested (Unit {0}) (Unit {0}) (Unit {0}) (λ _. tt) (λ _. tt) (layer_tested leaves kind) (λ _. tt) (λ _. tt) (λ _. tt) (layer.«Test::Cmp» op e)

  pub test_between : (low : Expr) (high : Expr) → test_of leaves kind (test.Between low high) ≡ (ev leaves low >>= (λ v. ev leaves high >>= (λ w. Ok (met.Between v w))))
  unfolding test_of
  test_between low high =
      ap (test_of leaves kind) (sym (test.rolls-Between low high))
      ∙ para-roll-Test (Unit {0}) (Unit {0}) Tested (Unit {0}) (Unit {0}) (Unit {0}) (λ _. tt) (λ _. tt) (layer_tested leaves kind) (λ _. tt) (λ _. tt) (λ _. tt) (layer.«Test::Between» low high)

  pub test_in : (es : List Expr) → test_of leaves kind (test.In es) ≡ (each (ev leaves) es >>= (λ vs. Ok (met.In vs)))
  unfolding test_of
  test_in es =
      ap (test_of leaves kind) (sym (test.rolls-In es))
      ∙ para-roll-Test (Unit {0}) (Unit {0}) Tested (Unit {0}) (Unit {0}) (Unit {0}) (λ _. tt) (λ _. tt) (layer_tested leaves kind) (λ _. tt) (λ _. tt) (λ _. tt) (layer.In es)
      ∙ ap (λ r. r >>= (λ vs. Ok (met.In vs))) (each_alone (ev leaves) es)

  pub test_null : test_of leaves kind test.Null ≡ Ok met.Null
  unfolding test_of
  test_null =
      ap (test_of leaves kind) (sym (test.rolls-Null))
      ∙ para-roll-Test (Unit {0}) (Unit {0}) Tested (Unit {0}) (Unit {0}) (Unit {0}) (λ _. tt) (λ _. tt) (layer_tested leaves kind) (λ _. tt) (λ _. tt) (λ _. tt) layer.Null

  pub test_and : (ts : List Test) → test_of leaves kind (test.And ts) ≡ (each (test_of leaves kind) ts >>= (λ ts. Ok (met.And ts)))
  unfolding test_of
  test_and ts =
      ap (test_of leaves kind) (sym (test.rolls-And ts))
      ∙ para-roll-Test (Unit {0}) (Unit {0}) Tested (Unit {0}) (Unit {0}) (Unit {0}) (λ _. tt) (λ _. tt) (layer_tested leaves kind) (λ _. tt) (λ _. tt) (λ _. tt) (layer.«Test::And» ts)
      ∙ ap (λ r. r >>= (λ ts. Ok (met.And ts))) (each_beside (test_of leaves kind) ts)

  pub test_or : (ts : List Test) → test_of leaves kind (test.Or ts) ≡ (each (test_of leaves kind) ts >>= (λ ts. Ok (met.Or ts)))
  unfolding test_of
  test_or ts =
      ap (test_of leaves kind) (sym (test.rolls-Or ts))
      ∙ para-roll-Test (Unit {0}) (Unit {0}) Tested (Unit {0}) (Unit {0}) (Unit {0}) (λ _. tt) (λ _. tt) (layer_tested leaves kind) (λ _. tt) (λ _. tt) (λ _. tt) (layer.«Test::Or» ts)
      ∙ ap (λ r. r >>= (λ ts. Ok (met.Or ts))) (each_beside (test_of leaves kind) ts)

  pub test_not : (t : Test) → test_of leaves kind (test.Not t) ≡ (test_of leaves kind t >>= (λ t. Ok (met.Not t)))
  unfolding test_of
  test_not t =
      ap (test_of leaves kind) (sym (test.rolls-Not t))
      ∙ para-roll-Test (Unit {0}) (Unit {0}) Tested (Unit {0}) (Unit {0}) (Unit {0}) (λ _. tt) (λ _. tt) (layer_tested leaves kind) (λ _. tt) (λ _. tt) (λ _. tt) (layer.«Test::Not» t)

-- all of them together
pub ruleset test_laws = (test_any, test_at, test_cmp, test_between, test_in, test_null, test_and, test_or, test_not)
