use Rattle.std.proofs.Common.{ap, ◌∙◌}
use Rattle.std.specs.Map.{keys_of}
use Rattle.mq_cells.specs.IndexedStores.{base_in, keys_in, value_in}
use Rattle.mq_ir.specs.Reads.{measure_at}
use Rattle.mq_seq.specs.Marks.{Marked}
use Rattle.mq_seq.proofs.ShownLemmas.{keys_over, values_told}
use Rattle.mq_seq.proofs.marked_cells.MarkedCells.lent.Goals as goal

pub returns-clause-values : goal.returns-clause-values
returns-clause-values c =
    ap value_in c.in-Some.ensures.same
    ∙ values_told c.self.inside.store c.self.inside.count c.self.invariant.2 c.index-index.ensures.covers c.index-index.ensures.covers_results
    ∙ ap (λ (m : Marked). measure_at m.cells) c.self.view_is

pub returns-clause-keys : goal.returns-clause-keys
returns-clause-keys c =
    ap keys_in c.in-Some.ensures.same ∙ keys_over c.self.inside.store c.self.inside.count ∙ ap (λ (m : Marked). keys_of m.cells) c.self.view_is

pub returns-clause-base : goal.returns-clause-base
returns-clause-base c = ap base_in c.in-Some.ensures.same ∙ ap (λ (m : Marked). m.input) c.self.view_is
