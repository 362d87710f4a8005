use Rattle.std.proofs.Common.{◌≡◌, length, ap, sym, subst, ◌∙◌}
use Rattle.std.specs.Prelude.{IfOk}
use Rattle.mq_ir.specs.Keys.{Tuple}
use Rattle.mq_cells.specs.IndexedStores.{input_in, results_of}
use Rattle.mq_auto.proofs.RowLemmas.{given_values}
use Rattle.mq_auto.proofs.stored.stored_measures.Goals as goal

pub returns-then-is_whole : goal.returns-then-is_whole
returns-then-is_whole c =
    let cells = c.args.cells.now in
    let measures = c.in-Some.measures.now in
    subst (λ (meant : Tuple). IfOk c.copy.result (λ values. values ≡ meant))
    (given_values (input_in cells) (results_of cells) c.args.key.now measures c.args.count (c.in-Some.ensures ∙ ap (λ (key : Tuple). input_in cells key) c.as_slice.ensures)
    (ap length (sym c.as_slice-in-Some.ensures) ∙ c.if-is_whole.true) (c.requires c.if-not-is_assigned.true)) c.copy.ensures
