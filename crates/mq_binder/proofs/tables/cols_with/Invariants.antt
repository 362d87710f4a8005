use Rattle.std.proofs.Common.{[]}
use Rattle.mq_binder.specs.TableWalk.{with_key}
use Rattle.mq_binder.proofs.NumberLemmas.{Listed}
use Rattle.mq_binder.proofs.tables.cols_with.Given as goal

abbrev pub invariant-columns : goal.invariant-columns
invariant-columns l = Listed (with_key l.key) l.columns [] l.n l.cols
