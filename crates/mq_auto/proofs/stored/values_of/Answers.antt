use Rattle.std.proofs.Common.{ap, ◌∙◌}
use Rattle.mq_ir.specs.Keys.{Tuple}
use Rattle.mq_cells.specs.IndexedStores.{value_in}
use Rattle.mq_cells.specs.Stores.{cell_name}
use Rattle.mq_auto.proofs.RowLemmas.{value_next}
use Rattle.mq_auto.proofs.stored.values_of.Goals as goal

pub measures-preserved : goal.measures-preserved
measures-preserved c =
    let m = c.measures.measure in
    value_next (λ n. value_in c.args.cells.now (cell_name c.args.key.now n)) c.measures.values c.push.new.self m c.in_ok-value_near.field-0 c.measures.invariant c.in_ok-push.ensures.ok
    (c.in_ok-value_near.ensures ∙ ap (λ (key : Tuple). value_in c.args.cells.now (cell_name key m)) c.as_slice.ensures)
