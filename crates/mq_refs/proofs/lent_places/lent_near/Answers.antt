use Rattle.std.proofs.Common.{rules, ◌≡◌, [], slice_index_or, ap, ◌∙◌}
use Rattle.mq_ir.specs.Keys.{Tuple}
use Rattle.mq_cells.specs.IndexedStores.{keys_in, value_in}
use Rattle.mq_cells.specs.Stores.{cell_name}
use Rattle.mq_refs.proofs.lent_places.lent_near.Goals as goal

pub returns-then-stands_at : goal.returns-then-stands_at
returns-then-stands_at c =
    let store = c.args.store.now in
    let there : slice_index_or (keys_in store) c.args.place [] ≡ c.args.key.now = search rules in
    c.lent_at.ensures [] ∙ ap (λ (k : Tuple). value_in store (cell_name k c.args.measure)) there
