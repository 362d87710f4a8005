use Rattle.std.proofs.Common.{◌≡◌, false, sym, subst, ◌∙◌}
use Rattle.std.specs.Prelude.{IfOk, slice_index_or}
use Rattle.mq_cells.specs.IndexedStores.{keys_in}
use Rattle.mq_cells.specs.Stores.{cell_name}
use Rattle.mq_ir.specs.Keys.{Tuple}
use Rattle.mq_seq.specs.Shown.{values_over}
use Rattle.mq_seq.proofs.MarkLemmas.{mark_told}
use Rattle.mq_seq.proofs.ShownLemmas.{measures_given}
use Rattle.mq_seq.proofs.marked_cells.measures_at.Goals as goal

pub returns-in-Some : goal.returns-in-Some
returns-in-Some c = λ other.
    let s = c.args.store.now in
    let keys = keys_in s in
    let key = slice_index_or keys c.args.at other in
    let unmarked = mark_told keys c.args.marks.now c.args.at other false c.requires.one_each c.index-index.ensures.ascending c.requires.within ∙ sym c.is_marked.ensures ∙ c.if-not-is_marked.true in
    subst (λ (measures : Tuple). IfOk c.copy.result (λ copy. copy ≡ measures))
    (sym (measures_given s c.args.count key c.in-Some.given.now (λ m. c.requires.marked (cell_name key m) unmarked) (c.in-Some.ensures other))) c.copy.ensures

pub returns-in_default : goal.returns-in_default
returns-in_default c = λ other.
    let s = c.args.store.now in
    let key = slice_index_or (keys_in s) c.args.at other in
    subst (λ n. IfOk c.values_at.result (λ measures. measures ≡ values_over s key n)) (c.count_at.ensures other) (c.values_at.ensures other)
