use Rattle.std.proofs.Common.{ltb-true, subst, sym}
use Rattle.mq_ir.specs.declared.expression.Expr.TheVariants as expr
use Rattle.mq_ir.specs.declared.expression.Leaf.{Leaf}
use Rattle.mq_join.specs.Deciding.{SeesBelow}
use Rattle.mq_join.proofs.SightLemmas.{sees_column}
use Rattle.mq_join.proofs.sight.leaf_sees_below.Goals as goal

pub returns-in-Column : goal.returns-in-Column
returns-in-Column c =
    λ h. subst (λ (x : Leaf). SeesBelow c.args.count (expr.Leaf x)) (sym c.in-Column.is)
    (sees_column c.args.count c.in-Column.item c.in-Column.field-1 (ltb-true c.in-Column.item c.args.count h))
