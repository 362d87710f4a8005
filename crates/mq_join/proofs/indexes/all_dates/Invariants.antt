use Rattle.std.proofs.Common.{◌≡◌, ◌<◌, ℕ, true}
use Rattle.mq_join.specs.Indexed.{key_at}
use Rattle.mq_join.specs.JoinKeys.{is_date}
use Rattle.mq_join.proofs.indexes.all_dates.Given as goal

abbrev pub invariant-rows : goal.invariant-rows
invariant-rows l = (k : ℕ) → k < l.place → is_date (key_at l.rows l.column k) ≡ true
