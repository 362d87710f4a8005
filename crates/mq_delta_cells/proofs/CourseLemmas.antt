-- What a walk goes by.
use Rattle.std.proofs.Common.{◌≡◌, true, List, [], ◌∷◌, map}
use Rattle.std.specs.List.{All}
use Rattle.std.proofs.lemmas.List.Elements.{All-from_recursion, All-map}
use Rattle.mq_ir.specs.declared.query.Model.{Model as Lent}
use Rattle.mq_ir.specs.declared.query.RefArray.{RefArray}
use Rattle.mq_ir.specs.EachLaws.{Each, each_in}
use Rattle.mq_ir.specs.Unfolding.{model_of}
use Rattle.mq_cells.specs.Ascents.{CellsAscend}
use Rattle.mq_refs.specs.Orders.{IsOrderOf}
use Rattle.mq_refs.specs.declared.order.RefsOrder.{RefsOrder}

unmapped : (xs : List RefArray) → Each CellsAscend (map (λ (r : RefArray). r.cells) xs) → Each (λ (r : RefArray). CellsAscend r.cells) xs
unmapped [] h = tt
unmapped (x ∷ xs) h = (h.0, unmapped xs h.1)

abbrev RefsAscend : RefsOrder → Lent → Type 0
RefsAscend order m = order.ascend ≡ true → All CellsAscend (model_of m).refs

-- what is known of the order of a model's references
pub refs_known : (m : Lent) (order : RefsOrder) → RefsAscend order m → IsOrderOf order m
refs_known m order h ascend =
    All-from_recursion (λ (r : RefArray). CellsAscend r.cells) m.refs.now
    (unmapped m.refs.now (each_in CellsAscend (map (λ (r : RefArray). r.cells) m.refs.now) (h ascend)))

pub refs_told : (m : Lent) (order : RefsOrder) → IsOrderOf order m → RefsAscend order m
refs_told m order h ascend = All-map CellsAscend (λ (r : RefArray). r.cells) m.refs.now (h ascend)
