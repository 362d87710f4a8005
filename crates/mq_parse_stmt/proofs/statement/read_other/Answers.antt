use Rattle.mq_parse_stmt.proofs.StmtLemmas.{none_other, changed_whole}
use Rattle.mq_parse_stmt.proofs.statement.read_other.Goals as goal

pub returns-in-None : goal.returns-in-None
returns-in-None c =
    rw c.changed.ensures (changed_whole c.read_change.result c.read_change.ensures (none_other c.requires.create c.requires.drops c.requires.select c.requires.show c.requires.load c.requires.explain c.in_default.ensures c.in_default-behind_word.ensures c.in_default-behind_word-2.ensures c.in_default-behind_word-3.ensures c.in-None.ensures))
