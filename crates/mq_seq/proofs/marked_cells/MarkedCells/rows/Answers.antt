use Rattle.std.proofs.Common.{◌<◌, ◌++◌, ◌∷◌, [], arith, ap, length, sym, ◌∙◌}
use Rattle.std.proofs.lemmas.List.{length-map, map_more}
use Rattle.mq_cells.specs.IndexedStores.{keys_in}
use Rattle.mq_ir.specs.Iteration.{out_cell}
use Rattle.mq_ir.specs.Keys.{Tuple}
use Rattle.mq_seq.specs.Marks.{Marked}
use Rattle.mq_seq.specs.Shown.{measures_over}
use Rattle.mq_seq.proofs.marked_cells.MarkedCells.rows.Goals as goal

pub rows-preserved : goal.rows-preserved
rows-preserved c =
    let s = c.self.inside.store in
    let cells = c.args.self.now.cells in
    let other : Tuple × Tuple = ([], []) in
    let pair : Tuple → Tuple × Tuple = λ key. (key, measures_over s c.self.inside.count key) in
    let shown = length-map (keys_in s) pair in
    let all = ap (λ (m : Marked). length m.cells) c.self.view_is in
    let keys = ap length c.index.ensures.keys in
    let count = c.len-count.ensures in
    let test = c.rows-test.true in
    let below : c.rows.at < length cells = omega (arith, shown, all, keys, count, test) in
    c.in_ok-push.ensures.ok ∙ (λ i. c.rows.invariant i ++ c.in_ok-row.ensures other i ∷ []) ∙ sym (map_more (out_cell c.args.self.now.updated) cells c.rows.at other below)
