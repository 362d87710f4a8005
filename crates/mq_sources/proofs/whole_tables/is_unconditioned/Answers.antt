use Rattle.std.proofs.Common.{◌≡◌, List, Option, ap, ◌∙◌}
use Rattle.std.specs.Prelude.{is_some}
use Rattle.std.specs.List.{list_any}
use Rattle.mq_ir.specs.declared.expression.Expr.{Expr}
use Rattle.mq_sources.proofs.WholeLemmas.{unconditioned}
use Rattle.mq_sources.proofs.whole_tables.is_unconditioned.Goals as goal

pub returns : goal.returns
returns c =
    let ons : c.any_stands.result ≡ list_any is_some c.args.from.now.ons = c.any_stands.ensures ∙ ap (λ (l : List (Option Expr)). list_any is_some l) c.as_slice.ensures in
    λ h. unconditioned c.args.from.now c.is_some.result c.any_stands.result c.is_some.ensures c.if-is_some.false ons h
