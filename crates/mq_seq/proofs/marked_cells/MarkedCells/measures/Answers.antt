use Rattle.std.proofs.Common.{◌≡◌, Some, None, ap, sym, ◌∙◌}
use Rattle.mq_cells.specs.IndexedStores.{keys_in}
use Rattle.mq_dim_index.specs.Places.{place_of}
use Rattle.mq_ir.specs.Keys.{Tuple}
use Rattle.mq_ir.specs.Partitions.{cell_at}
use Rattle.mq_seq.specs.Marks.{Marked}
use Rattle.mq_seq.specs.Shown.{measures_over}
use Rattle.mq_seq.proofs.PlaceLemmas.{key_placed, nowhere, stands}
use Rattle.mq_seq.proofs.ShownLemmas.{none_shown, shown_at}
use Rattle.mq_seq.proofs.marked_cells.MarkedCells.measures.Goals as goal

pub returns-in_ok-measures_at-in-Some : goal.returns-in_ok-measures_at-in-Some
returns-in_ok-measures_at-in-Some c =
    let s = c.self.inside.store in
    let count = c.self.inside.count in
    let key : Tuple = c.args.key.now in
    let found : place_of (keys_in s) key ≡ Some c.in-Some.at = (λ i. place_of (sym c.index.ensures.keys i) (sym c.as_slice.ensures i)) ∙ sym c.in-Some.ensures in
    ap Some (c.in_ok-measures_at-in-Some.ensures key ∙ ap (measures_over s count) (key_placed key (keys_in s) c.in-Some.at key found))
    ∙ sym (shown_at (measures_over s count) key (keys_in s) (stands key (keys_in s) c.in-Some.at found))
    ∙ ap (λ (m : Marked). cell_at m.cells key) c.self.view_is

pub returns-in-None : goal.returns-in-None
returns-in-None c =
    let s = c.self.inside.store in
    let count = c.self.inside.count in
    let key : Tuple = c.args.key.now in
    let missed : place_of (keys_in s) key ≡ None = (λ i. place_of (sym c.index.ensures.keys i) (sym c.as_slice.ensures i)) ∙ sym c.in-None.ensures in
    sym (none_shown (measures_over s count) key (keys_in s) (nowhere key (keys_in s) missed)) ∙ ap (λ (m : Marked). cell_at m.cells key) c.self.view_is
