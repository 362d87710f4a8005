use Rattle.std.proofs.Common.{ap, subst, ◌∙◌}
use Rattle.std.specs.List.Sorted.{IsStrictlySortedBy}
use Rattle.std.specs.Map.{keys_of}
use Rattle.mq_values.specs.Order.{cmp_key}
use Rattle.mq_seq.specs.Marks.{Marked}
use Rattle.mq_seq.proofs.ShownLemmas.{keys_over}
use Rattle.mq_seq.proofs.marked_cells.MarkedCells.index.Goals as goal

pub returns-clause-keys : goal.returns-clause-keys
returns-clause-keys c = c.index.ensures.keys ∙ keys_over c.self.inside.store c.self.inside.count ∙ ap (λ (m : Marked). keys_of m.cells) c.self.view_is

pub returns-clause-ascending : goal.returns-clause-ascending
returns-clause-ascending c =
    subst (IsStrictlySortedBy cmp_key) (keys_over c.self.inside.store c.self.inside.count ∙ ap (λ (m : Marked). keys_of m.cells) c.self.view_is) c.index.ensures.ascending
