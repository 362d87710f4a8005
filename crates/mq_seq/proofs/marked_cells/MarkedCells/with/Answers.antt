use Rattle.std.proofs.Common.{◌≡◌, arith, List, length, ap, sym, subst, ◌∙◌}
use Rattle.mq_cells.specs.IndexedStores.{keys_in}
use Rattle.mq_cells.specs.Stores.{cell_name}
use Rattle.mq_dim_index.specs.Places.{is_there, with_key}
use Rattle.mq_ir.specs.Keys.{Tuple, is_among}
use Rattle.mq_seq.specs.Marks.{IsFresh, Marked, cell_with, marked_keys}
use Rattle.mq_seq.proofs.MarkLemmas.{MarksKept, marks_kept}
use Rattle.mq_seq.proofs.PlaceLemmas.{there_with, with_longer}
use Rattle.mq_seq.proofs.ShownLemmas.{added_at_measures, added_shown, fresh_measures}
use Rattle.mq_seq.proofs.marked_cells.MarkedCells.with.Goals as goal

pub with_unmarked-requires-clause-there : goal.with_unmarked-requires-clause-there
with_unmarked-requires-clause-there c =
    (λ i. is_there (c.index.ensures.keys i) (c.in_ok-own.ensures i)) ∙ ap (λ (ks : List Tuple). is_there ks c.args.key) c.in_ok-add.ensures.keys ∙ there_with c.args.key (keys_in c.self.inside.store)

pub with_unmarked-requires-clause-one_more : goal.with_unmarked-requires-clause-one_more
with_unmarked-requires-clause-one_more c =
    let longer = with_longer c.args.key (keys_in c.self.inside.store) in
    let keys = ap length (c.index.ensures.keys ∙ c.in_ok-add.ensures.keys) in
    let marks = c.self.invariant.0 in
    omega (arith, longer, keys, marks)

pub invariant_of-result : goal.invariant_of-result
invariant_of-result c =
    let s = c.self.inside.store in
    let key = c.args.key in
    let now : c.index.result.now ≡ with_key (keys_in s) key = c.index.ensures.keys ∙ c.in_ok-add.ensures.keys in
    let own = c.in_ok-own.ensures in
    let kept : MarksKept (keys_in s) c.self.inside.marks.items c.index.result.now c.in_ok-marks.marks.items =
    marks_kept key (keys_in s) c.self.inside.marks.items c.index.result.now c.in_ok-marks.marks.items c.index-index.ensures.ascending c.self.invariant.0 now c.in_ok-marks.ensures.old
    (λ t. c.in_ok-marks.ensures.one_each (keys_in s) (ap (is_there (keys_in s)) own ∙ t) (now ∙ ap (with_key (keys_in s)) (sym own)) c.self.invariant.0)
    (λ t. c.in_ok-marks.ensures.same (keys_in s) (ap (is_there (keys_in s)) own ∙ t) (now ∙ ap (with_key (keys_in s)) (sym own)) c.self.invariant.0)
    in
    let updated = ap (λ ks. marked_keys ks c.in_ok-marks.marks.items) (sym c.index.ensures.keys) ∙ kept.same in (
      kept.long ∙ ap length c.index.ensures.keys,
      c.in_ok-add.ensures.same_sound ∙ c.self.invariant.1,
      added_at_measures s c.add.new.self c.self.inside.count key c.in_ok-add.ensures.keys c.in_ok-add.ensures.same_input c.in_ok-add.ensures.same_results c.self.invariant.2,
      λ cell h. ap (λ f. f cell) c.in_ok-add.ensures.same_results ∙ c.self.invariant.3 cell (ap (λ (l : List Tuple). is_among l cell.key) (sym updated) ∙ h),
    )

pub returns : goal.returns
returns c =
    let s = c.self.inside.store in
    let count = c.self.inside.count in
    let key = c.args.key in
    let now : c.index.result.now ≡ with_key (keys_in s) key = c.index.ensures.keys ∙ c.in_ok-add.ensures.keys in
    let own = c.in_ok-own.ensures in
    let kept : MarksKept (keys_in s) c.self.inside.marks.items c.index.result.now c.in_ok-marks.marks.items =
    marks_kept key (keys_in s) c.self.inside.marks.items c.index.result.now c.in_ok-marks.marks.items c.index-index.ensures.ascending c.self.invariant.0 now c.in_ok-marks.ensures.old
    (λ t. c.in_ok-marks.ensures.one_each (keys_in s) (ap (is_there (keys_in s)) own ∙ t) (now ∙ ap (with_key (keys_in s)) (sym own)) c.self.invariant.0)
    (λ t. c.in_ok-marks.ensures.same (keys_in s) (ap (is_there (keys_in s)) own ∙ t) (now ∙ ap (with_key (keys_in s)) (sym own)) c.self.invariant.0)
    in
    let fresh = fresh_measures s count key (c.index-index.ensures.covers key) (λ m. c.index-index.ensures.covers_results (cell_name key m)) (subst (λ (m : Marked). IsFresh m.count m.cells key) (sym c.self.view_is) c.requires) in
    let cells = added_shown s c.add.new.self count key c.in_ok-add.ensures.keys c.in_ok-add.ensures.same_input c.in_ok-add.ensures.same_results c.index-index.ensures.ascending fresh in
    let updated = ap (λ ks. marked_keys ks c.in_ok-marks.marks.items) (sym c.index.ensures.keys) ∙ kept.same in
    (λ i. record { input = c.in_ok-add.ensures.base i; cells = cells i; updated = updated i; count = count }) ∙ ap (cell_with key) c.self.view_is
