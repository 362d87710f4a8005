use Rattle.mq_ir.specs.Answer.{list_rows}
use Rattle.mq_sources.proofs.ListLemmas.{Numbered}
use Rattle.mq_sources.proofs.lists.each_list.Given as goal

abbrev pub invariant-sources : goal.invariant-sources
invariant-sources g l = Numbered (list_rows (g.T.TableSet.tables l.tables) l.part) l.sources l.number l.lists
