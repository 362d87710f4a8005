use Rattle.std.proofs.Common.{◌<◌, arith, false, List, ap, length, get_or, sym, ◌∙◌}
use Rattle.std.proofs.lemmas.List.{get_or-map, length-map}
use Rattle.mq_cells.specs.IndexedStores.{keys_in}
use Rattle.mq_ir.specs.Iteration.{out_cell}
use Rattle.mq_ir.specs.Keys.{Tuple}
use Rattle.mq_seq.specs.Marks.{Marked, marked_keys}
use Rattle.mq_seq.specs.Shown.{measures_over}
use Rattle.mq_seq.proofs.MarkLemmas.{mark_told}
use Rattle.mq_seq.proofs.marked_cells.MarkedCells.row.Goals as goal

pub returns : goal.returns
returns c = λ other.
    let s = c.self.inside.store in
    let count = c.self.inside.count in
    let keys = keys_in s in
    let at = c.args.at in
    let pair : Tuple → Tuple × Tuple = λ key. (key, measures_over s count key) in
    let shown = length-map keys pair in
    let all = ap (λ (m : Marked). length m.cells) c.self.view_is in
    let within = c.requires in
    let below : at < length keys = omega (arith, shown, all, within) in
    let key = c.in_ok-key.ensures ∙ c.key_at.ensures other.0 ∙ ap (λ (ks : List Tuple). get_or ks at other.0) c.index.ensures.keys in
    let measures = c.in_ok-measures.ensures other.0 in
    let updated = c.is_marked.ensures ∙ ap (λ ms. get_or ms at false) c.deref-2.ensures.value ∙ sym (mark_told keys c.self.inside.marks.items at other.0 false c.self.invariant.0 c.index.ensures.ascending below) in
    (λ i. record { key = key i; measures = measures i; updated = updated i })
    ∙ ap (out_cell (marked_keys keys c.self.inside.marks.items)) (sym (get_or-map pair keys at other.0 other below))
    ∙ ap (λ (m : Marked). out_cell m.updated (get_or m.cells at other)) c.self.view_is
