use Rattle.std.proofs.Common.{ap, ◌∙◌}
use Rattle.std.specs.Map.{keys_of}
use Rattle.mq_seq.specs.Marks.{Marked}
use Rattle.mq_seq.proofs.ShownLemmas.{keys_over}
use Rattle.mq_seq.proofs.marked_cells.MarkedCells.store.Goals as goal

pub returns-clause-keys : goal.returns-clause-keys
returns-clause-keys c = keys_over c.self.inside.store c.self.inside.count ∙ ap (λ (m : Marked). keys_of m.cells) c.self.view_is
