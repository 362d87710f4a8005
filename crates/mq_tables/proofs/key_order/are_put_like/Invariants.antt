use Rattle.std.proofs.Common.{take}
use Rattle.mq_tables.specs.Exchanging.{keys_put}
use Rattle.mq_tables.specs.Groups.{AreLike}
use Rattle.mq_tables.proofs.key_order.are_put_like.Given as goal

abbrev pub invariant-puts : goal.invariant-puts
invariant-puts l = AreLike l.values (keys_put l.schema (take l.put-index l.puts))
