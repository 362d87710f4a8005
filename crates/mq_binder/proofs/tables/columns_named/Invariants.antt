use Rattle.std.proofs.Common.{[]}
use Rattle.mq_binder.specs.TableWalk.{new_column}
use Rattle.mq_bind_expr.specs.StepLemmas.{Behind}
use Rattle.mq_binder.proofs.tables.columns_named.Given as goal

abbrev pub invariant-names : goal.invariant-names
invariant-names l = Behind (new_column l.columns) (λ n. n) [] l.names l.name-index l.numbers l.numbers
