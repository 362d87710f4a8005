use Rattle.mq_values.specs.OrderLaws.{key_total}
use Rattle.mq_tables.proofs.AscendingLemmas.{behind_least}
use Rattle.mq_tables.proofs.ascending.all_come_behind.Goals as goal

pub returns-in-Some : goal.returns-in-Some
returns-in-Some c e =
    behind_least key_total c.args.keys.now c.args.others.now c.in-Some.least.now c.in-Some.ensures.item.3.0 c.in-Some.ensures.item.1 c.requires.those (c.comes_behind.ensures e)
