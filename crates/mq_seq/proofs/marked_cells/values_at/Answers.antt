use Rattle.std.proofs.Common.{◌++◌, ◌∷◌, [], arith, sym, ◌∙◌}
use Rattle.std.specs.Prelude.{slice_index_or}
use Rattle.std.proofs.lemmas.List.FromFn.{map-range_with_len_more}
use Rattle.mq_cells.specs.IndexedStores.{keys_in, value_in}
use Rattle.mq_cells.specs.Stores.{cell_name}
use Rattle.mq_seq.proofs.marked_cells.values_at.Goals as goal

pub measures-preserved : goal.measures-preserved
measures-preserved c = λ other.
    let key = slice_index_or (keys_in c.args.store.now) c.args.at other in
    c.in_ok-push.ensures.ok ∙ (λ i. c.measures.invariant other i ++ c.in_ok-value_at.ensures other i ∷ [])
    ∙ sym (map-range_with_len_more (λ m. value_in c.args.store.now (cell_name key m)) 0 c.measures.m c.measures.m (omega arith))
