use Rattle.std.proofs.Common.{◌≡◌, vec_len}
use Rattle.mq_tables.specs.Pending.{with_pending}
use Rattle.mq_engine.proofs.open_block.commit_all.Given as goal

abbrev pub invariant-staged : goal.invariant-staged
invariant-staged l = with_pending l.tables l.left.items ≡ with_pending l.initial.tables l.initial.left.items

abbrev pub decreases-staged : goal.decreases-staged
decreases-staged l = vec_len l.left
