use Rattle.std.proofs.Common.{◌≡◌, ap, subst, ◌∙◌}
use Rattle.std.specs.Prelude.{IfOk}
use Rattle.mq_cells.specs.Stores.{cell_name}
use Rattle.mq_ir.specs.Reads.{Measures, measure_at}
use Rattle.mq_seq.specs.Marks.{Marked}
use Rattle.mq_seq.proofs.ShownLemmas.{values_told}
use Rattle.mq_seq.proofs.marked_cells.MarkedCells.value.Goals as goal

pub returns : goal.returns
returns c =
    subst (λ (f : Measures). IfOk c.value_near.result (λ v. v ≡ f (cell_name c.args.key.now c.args.m)))
    (values_told c.self.inside.store c.self.inside.count c.self.invariant.2 c.index-index.ensures.covers c.index-index.ensures.covers_results ∙ ap (λ (m : Marked). measure_at m.cells) c.self.view_is)
    c.value_near.ensures
