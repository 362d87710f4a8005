use Rattle.std.proofs.Common.{◌≡◌, List, Some, true, length, ap, sym, subst, ◌∙◌}
use Rattle.std.specs.Map.{keys_of}
use Rattle.std.specs.Prelude.{slice_set}
use Rattle.std.proofs.lemmas.List.{length-set}
use Rattle.mq_cells.specs.IndexedStores.{keys_in}
use Rattle.mq_cells.specs.Stores.{cell_name}
use Rattle.mq_dim_index.specs.Places.{place_of, with_key}
use Rattle.mq_ir.specs.Keys.{Tuple}
use Rattle.mq_ir.specs.Sequential.{assigned}
use Rattle.mq_seq.specs.Marks.{Marked, marked_keys}
use Rattle.mq_seq.specs.Shown.{AtMarked, SetsAt}
use Rattle.mq_seq.proofs.MarkLemmas.{marked_where_found}
use Rattle.mq_seq.proofs.PlaceLemmas.{key_placed, stands}
use Rattle.mq_seq.proofs.ShownLemmas.{keys_over, set_at_marked, set_at_measures, set_shown}
use Rattle.mq_seq.proofs.marked_cells.MarkedCells.assigned.Goals as goal

pub invariant_of-result : goal.invariant_of-result
invariant_of-result c =
    let s = c.self.inside.store in
    let count = c.self.inside.count in
    let key = c.args._key.now in
    let at = c.args.at in
    let after = c.set_measure.new.store in
    let marks = c.self.inside.marks.items in
    let ensured = c.in_ok-set_measure.ensures in
    let keys = keys_over s count ∙ ap (λ (m : Marked). keys_of m.cells) c.self.view_is in
    let found : place_of (keys_in s) key ≡ Some at = ap (λ (ks : List Tuple). place_of ks key) keys ∙ c.requires.placed in
    let sets : SetsAt s after count (cell_name key c.args.m) c.args.v = subst (λ (k : Tuple). SetsAt s after count (cell_name k c.args.m) c.args.v) (key_placed key (keys_in s) at key found) (ensured.set key) in
    let marked = marked_where_found key (keys_in s) marks at c.self.invariant.0 c.index-index.ensures.ascending found in (
      length-set marks at true ∙ c.self.invariant.0 ∙ ap length (sym ensured.same_keys),
      ensured.sound c.self.invariant.1,
      set_at_measures s after count key c.args.m c.args.v ensured.same_keys ensured.same_input sets c.self.invariant.2,
      subst (AtMarked after) (sym marked ∙ ap (λ (ks : List Tuple). marked_keys ks (slice_set marks at true)) (sym ensured.same_keys))
          (set_at_marked s after count key c.args.m c.args.v ensured.same_keys ensured.same_input sets (marked_keys (keys_in s) marks) c.self.invariant.3),
    )

pub returns : goal.returns
returns c =
    let s = c.self.inside.store in
    let count = c.self.inside.count in
    let key = c.args._key.now in
    let at = c.args.at in
    let after = c.set_measure.new.store in
    let marks = c.self.inside.marks.items in
    let ensured = c.in_ok-set_measure.ensures in
    let keys = keys_over s count ∙ ap (λ (m : Marked). keys_of m.cells) c.self.view_is in
    let found : place_of (keys_in s) key ≡ Some at = ap (λ (ks : List Tuple). place_of ks key) keys ∙ c.requires.placed in
    let sets : SetsAt s after count (cell_name key c.args.m) c.args.v = subst (λ (k : Tuple). SetsAt s after count (cell_name k c.args.m) c.args.v) (key_placed key (keys_in s) at key found) (ensured.set key) in
    let marked = ap (λ (ks : List Tuple). marked_keys ks (slice_set marks at true)) ensured.same_keys ∙ marked_where_found key (keys_in s) marks at c.self.invariant.0 c.index-index.ensures.ascending found in
    let cells = set_shown s after count key c.args.m c.args.v ensured.same_keys ensured.same_input sets c.index-index.ensures.ascending (stands key (keys_in s) at found) in
    (λ i. record { input = ensured.same_base i; cells = cells i; updated = marked i; count = count })
    ∙ ap (λ (m : Marked). record m { cells = assigned m.cells key c.args.m c.args.v; updated = with_key m.updated key }) c.self.view_is
