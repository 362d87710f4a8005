use Rattle.std.proofs.Common.{drop}
use Rattle.mq_ir.specs.declared.expression.Expr.TheVariants as expr
use Rattle.mq_join.specs.Deciding.{AddsDeciders, ReachedInAnd}
use Rattle.mq_join.proofs.deciders.add_members.Given as goal

abbrev pub invariant-members : goal.invariant-members
invariant-members l = record {
  reached : ReachedInAnd l.es (drop l.e-index l.es);
  added : AddsDeciders (expr.And l.es) l.fn.deciders.items l.deciders.items;
}
