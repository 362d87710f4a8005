-- The tests of symbolic places, with their operands evaluated.
use Rattle.std.specs.Prelude.{Result, Ok}
use Rattle.mq_values.specs.Convert.{cast_of}
use Rattle.mq_values.specs.declared.faults.ValueFault.{ValueFault}
use Rattle.mq_values.specs.declared.operators.DimTest.{DimTest}
use Rattle.mq_values.specs.declared.operators.DimTest.TheVariants as test
use Rattle.mq_values.specs.declared.value.Kind.{Kind}
use Rattle.mq_ir.specs.declared.expression.Expr.{Expr}
use Rattle.mq_ir.specs.declared.expression.Expr.TheOpen as layer
use Rattle.mq_ir.specs.declared.expression.Leaf.{Leaf}
use Rattle.mq_ir.specs.declared.expression.BoundArm.{BoundArm}
use Rattle.mq_ir.specs.declared.expression.BoundProd.{BoundProd}
use Rattle.mq_ir.specs.declared.expression.BoundSum.{BoundSum}
use Rattle.mq_ir.specs.declared.expression.Test.{Test, para-Test}
use Rattle.mq_ir.specs.Expression.{Outcome, ev}
use Rattle.mq_ir.specs.Results.{◌>>=◌, each}

-- the value of an expression, brought to a kind at once
abbrev pub converted : (Leaf → Outcome) → Kind → Expr → Outcome
converted leaves kind e = ev leaves e >>= (λ v. cast_of v kind)

-- a test with its operands evaluated, or the first fault among them
abbrev pub Tested : Type 0
Tested = Result DimTest ValueFault

-- One layer of a test, where each test in it stands beside what it came to. A named value is brought to its dimension's kind; the operands of a comparison stay as they are.
abbrev pub layer_tested : (Leaf → Outcome) → Kind → layer.Test-F (Expr × Unit {0}) (Leaf × Unit {0}) (Test × Tested) (BoundArm × Unit {0}) (BoundProd × Unit {0}) (BoundSum × Unit {0}) → Tested
layer_tested leaves kind layer.Any = Ok test.Any
layer_tested leaves kind (layer.At e) = converted leaves kind e.0 >>= (λ v. Ok (test.At v))
layer_tested leaves kind (layer.«Test::Cmp» op e) = ev leaves e.0 >>= (λ v. Ok (test.Cmp op v))
layer_tested leaves kind (layer.«Test::Between» low high) = ev leaves low.0 >>= (λ v. ev leaves high.0 >>= (λ w. Ok (test.Between v w)))
layer_tested leaves kind (layer.In es) = each (λ e. ev leaves e.0) es >>= (λ vs. Ok (test.In vs))
layer_tested leaves kind layer.Null = Ok test.Null
layer_tested leaves kind (layer.«Test::And» ts) = each (λ t. t.1) ts >>= (λ ts. Ok (test.And ts))
layer_tested leaves kind (layer.«Test::Or» ts) = each (λ t. t.1) ts >>= (λ ts. Ok (test.Or ts))
layer_tested leaves kind (layer.«Test::Not» t) = t.1 >>= (λ t. Ok (test.Not t))

-- The test of a symbolic place over a dimension of this kind, its operands evaluated from left to right.
unfoldable pub test_of : (Leaf → Outcome) → Kind → Test → Tested
test_of leaves kind =
    para-Test (Unit {0}) (Unit {0}) Tested (Unit {0}) (Unit {0}) (Unit {0}) (λ _. tt) (λ _. tt) (layer_tested leaves kind) (λ _. tt) (λ _. tt) (λ _. tt)
