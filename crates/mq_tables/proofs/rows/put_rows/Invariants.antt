use Rattle.std.proofs.Common.{◌≡◌, vec_len}
use Rattle.mq_tables.specs.InPlace.{put_at}
use Rattle.mq_tables.proofs.rows.put_rows.Given as goal

abbrev pub invariant-puts : goal.invariant-puts
invariant-puts l = put_at l.puts.items l.rows.items ≡ put_at l.fn.puts l.initial.rows.items

abbrev pub decreases-puts : goal.decreases-puts
decreases-puts l = vec_len l.puts
