use Rattle.mq_tables.proofs.PutLemmas.{put_next}
use Rattle.mq_tables.specs.InPlace.{put_at}
use Rattle.mq_tables.proofs.rows.put_rows.Goals as goal

pub puts-preserved : goal.puts-preserved
puts-preserved c =
    put_next c.puts.puts.items c.pop.new.self.items c.in-Some.place c.in-Some.row c.puts.rows.items c.put.new.items.items (put_at c.args.puts c.args.rows.now.items)
    c.in-Some.ensures.items c.put.ensures c.puts.invariant
