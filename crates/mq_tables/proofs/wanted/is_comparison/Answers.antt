use Rattle.std.proofs.Common.{subst}
use Rattle.mq_ir.specs.declared.expression.Expr.{Expr}
use Rattle.mq_tables.specs.Wanted.{HasValue}
use Rattle.mq_tables.proofs.WantedLemmas.{comparison_never_faults}
use Rattle.mq_tables.proofs.wanted.is_comparison.Goals as goal

pub returns-then-is_plain : goal.returns-then-is_plain
returns-then-is_plain c = λ h.
    comparison_never_faults c.args.e.now c.in-Cmp.a c.in-Cmp.b c.in-Cmp.field-1 c.in-Cmp.is
    (subst (λ (e : Expr). HasValue e) c.get.ensures (c.is_plain.ensures c.if-is_plain.true))
    (subst (λ (e : Expr). HasValue e) c.get-then-is_plain.ensures (c.is_plain-then-is_plain.ensures h))
