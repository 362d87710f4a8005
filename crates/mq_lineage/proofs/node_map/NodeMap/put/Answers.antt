use Rattle.mq_lineage.proofs.NodeLemmas.{numbered}
use Rattle.mq_lineage.proofs.node_map.NodeMap.put.Goals as goal

pub returns-clause-ok : goal.returns-clause-ok
returns-clause-ok c = numbered c.args.key c.args.m c.args.number c.self.inside.numbers.entries c.args.self.now _ c.self.view_is c.in_ok-insert.ensures.updates.0
