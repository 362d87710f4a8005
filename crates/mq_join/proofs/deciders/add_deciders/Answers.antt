use Rattle.std.proofs.Common.{◌≡◌, OnOk, subst}
use Rattle.mq_ir.specs.declared.expression.Expr.{Expr}
use Rattle.mq_ir.specs.declared.expression.Expr.TheVariants as expr
use Rattle.mq_join.specs.Deciding.{AddsDeciders}
use Rattle.mq_join.proofs.deciders.add_deciders.Goals as goal

pub returns-in-And : goal.returns-in-And
returns-in-And c =
    let same : expr.And c.as_slice.result.now ≡ c.args.e.now = cc (c.as_slice.ensures, c.in-And.is) in
    subst (λ (e : Expr). OnOk c.add_members.result (AddsDeciders e c.args.deciders.now.items c.add_members.new.deciders.items)) same c.add_members.ensures
