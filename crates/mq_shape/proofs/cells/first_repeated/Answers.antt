use Rattle.std.proofs.Common.{◌-◌, ◌≤◌, drop, length, map, sym, ◌∙◌, arith}
use Rattle.std.proofs.lemmas.List.{length-drop, length-map}
use Rattle.mq_ir.specs.Keys.{Tuple}
use Rattle.mq_shape.proofs.KeyLemmas.{short_twice}
use Rattle.mq_shape.proofs.cells.first_repeated.Goals as goal

pub returns : goal.returns
returns c =
    let first = λ (cell : Tuple × Tuple). cell.0 in
    let cells = c.args.cells.now in
    let left = drop (c.loop-at.at - 1) cells in
    let few : length (map first left) ≤ 1 = omega (arith, length-map left first, length-drop (c.loop-at.at - 1) cells) in
    sym (sym c.loop-at.invariant ∙ short_twice (map first left) few)
