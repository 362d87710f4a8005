use Rattle.mq_join.proofs.PartLemmas.{placed_part}
use Rattle.mq_join.proofs.join_row.part_at.Goals as goal

pub returns : goal.returns
returns c =
    placed_part c.args.items.now c.args.places.now c.args.i c.index-items-i.result c.row.result.now c.new.result c.requires.item c.requires.place c.index-items-i.is
    c.row.ensures c.new.ensures
