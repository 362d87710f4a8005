use Rattle.std.proofs.Common.{◌≡◌, [], Some, sym, ap, ◌∙◌}
use Rattle.mq_ir.specs.Keys.{Tuple}
use Rattle.mq_dim_index.specs.Places.{place_of}
use Rattle.mq_cells.specs.IndexedStores.{keys_in, value_in}
use Rattle.mq_cells.specs.Stores.{cell_name}
use Rattle.mq_refs.proofs.NearLemmas.{absent, at_place, worth_nothing}
use Rattle.mq_refs.proofs.lent_places.lent_beside.Goals as goal

pub returns-in-Some : goal.returns-in-Some
returns-in-Some c =
    let store = c.args.store.now in
    let key = c.args.key.now in
    let found : place_of (keys_in store) key ≡ Some c.in-Some.at = ap (λ keys. place_of keys key) (sym c.index.ensures.keys) ∙ sym c.place_near.ensures ∙ c.in-Some.is in
    c.lent_at.ensures [] ∙ ap (λ (k : Tuple). value_in store (cell_name k c.args.measure)) (at_place (keys_in store) key c.in-Some.at found)

pub returns-in-None : goal.returns-in-None
returns-in-None c =
    let store = c.args.store.now in
    let key = c.args.key.now in
    let gone = absent (keys_in store) key (ap (λ keys. place_of keys key) (sym c.index.ensures.keys) ∙ sym c.place_near.ensures ∙ c.in-None.is) in
    sym (worth_nothing store (cell_name key c.args.measure) (c.index.ensures.covers key gone) (c.index.ensures.covers_results (cell_name key c.args.measure) gone))
