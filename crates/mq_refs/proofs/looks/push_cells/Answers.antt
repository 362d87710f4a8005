use Rattle.std.proofs.Common.{[], ◌++◌, List, ℕ, map, slice_index_or, ap, ◌∙◌}
use Rattle.mq_ir.specs.Keys.{Tuple}
use Rattle.mq_ir.specs.Looks.{looks_at}
use Rattle.mq_refs.proofs.looks.push_cells.Goals as goal

pub loop-place-init : goal.loop-place-init
loop-place-init g c =
    let key_at : ℕ → Tuple = λ place. slice_index_or (g.K.CellKeys.set c.args.keys.now) place [] in
    ap (λ (keys : List Tuple). c.args.looks.now ++ looks_at c.args.measure keys)
    (ap (map key_at) c.as_slice-place-items.ensures.value ∙ c.in_ok-places.ensures.keys [])
