use Rattle.std.proofs.Common.{is_some, sym, ap, subst, ◌∙◌}
use Rattle.std.specs.List.{filter}
use Rattle.std.specs.List.Sorted.{IsStrictlySortedBy}
use Rattle.std.specs.Map.{keys_of}
use Rattle.mq_values.specs.Order.{cmp_key}
use Rattle.mq_ir.specs.Partitions.{Cells, cell_at}
use Rattle.mq_cells.specs.IndexedStores.{input_in, keys_in, results_of}
use Rattle.mq_cells.proofs.GatherLemmas.{cells_ascend, whole_base}
use Rattle.mq_cells.proofs.indexed.IndexedCells.new.Goals as goal

pub returns-clause-base : goal.returns-clause-base
unfolding keys_in input_in results_of
returns-clause-base c = λ sorted.
    let own = c.as_slice.ensures in
    let ascend = subst (λ (cells : Cells). IsStrictlySortedBy cmp_key (keys_of cells)) (sym own) sorted in
    let input = c.in_ok-cells.ensures.input ∙ ap (λ (cells : Cells). cell_at cells) own in
    let keys = c.in_ok-cells.ensures.keys ascend ∙ ap (λ (cells : Cells). keys_of cells) own in
    (λ i. filter (λ key. is_some (input i key)) (keys i)) ∙ whole_base c.args.p.now.cells (cells_ascend c.args.p.now.cells sorted)
