use Rattle.std.proofs.Common.{sym, ap, ◌∙◌}
use Rattle.std.specs.Option.{option_copied}
use Rattle.mq_ir.specs.declared.statement.Column.{Column}
use Rattle.mq_bind_scopes.specs.Kinds.{of_column}
use Rattle.mq_bind_scopes.specs.declared.kinds.ExprKind.TheVariants as kind
use Rattle.mq_binder.proofs.PlacedLemmas.{missing_is}
use Rattle.mq_binder.proofs.changes.kind_at.Goals as goal

pub returns-in-None : goal.returns-in-None
returns-in-None c =
    sym (missing_is (λ (x : Column). of_column x.kind) c.args.schema.now.cols c.args.n kind.Null (sym c.get.ensures ∙ ap option_copied c.in-None.is))
