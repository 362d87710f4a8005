use Rattle.std.proofs.Common.{◌≡◌, [], List, length, map, Some, None, Ok, Err, true, false, sym, ap, ◌∙◌, arith, rules}
use Rattle.std.specs.Prelude.{nat_lt}
use Rattle.std.proofs.lemmas.Bool.Decides.{nat_tests}
use Rattle.std.proofs.lemmas.Result.{err_from_is_err_and}
use Rattle.mq_values.specs.declared.faults.FaultKind.TheVariants as kind
use Rattle.mq_values.specs.declared.limits.TheConstants.{MAX_CELLS_OF_REFERENCE}
use Rattle.mq_ir.specs.Keys.{Tuple}
use Rattle.mq_ir.specs.Partitions.{cells_of, repeated}
use Rattle.mq_ir.specs.Placed.{at_partition, placed_fault}
use Rattle.mq_refmodel.proofs.ArrayLemmas.{made, not_unique, rows_exit, rows_made, too_many}
use Rattle.mq_refmodel.proofs.arrays.reference.Goals as goal

pub returns-in_err-rows : goal.returns-in_err-rows
returns-in_err-rows c =
    let p = err_from_is_err_and c.from_residual.result c.from_residual.ensures.1 in
    rw (p.1, p.2) (rows_exit c.args.q.now c.args.items.now c.in_err-rows.field-0.0 c.in_err-rows.ensures)

pub returns-in-Some : goal.returns-in-Some
returns-in-Some c =
    let rows = c.in_ok-rows.rows in
    let twice : repeated (map (λ (row : Tuple × Tuple). row.0) rows) ≡ Some c.in-Some.key = search rules in
    rows_made c.args.q.now c.args.items.now rows c.in_ok-rows.ensures ∙ not_unique rows c.in-Some.key twice ∙ ap Err (sym c.fault_at.ensures)

pub returns-then-count : goal.returns-then-count
returns-then-count c =
    let rows = c.in_ok-rows.rows in
    let none : repeated (map (λ (row : Tuple × Tuple). row.0) rows) ≡ None = search rules in
    let many : nat_lt MAX_CELLS_OF_REFERENCE (length rows) ≡ true = grind (arith, nat_tests) in
    rows_made c.args.q.now c.args.items.now rows c.in_ok-rows.ensures
    ∙ too_many rows none many
    ∙ ap (λ cell. Err (at_partition [] (placed_fault 0 cell kind.TooManyCells))) (sym c.empty.ensures)
    ∙ ap Err (sym c.fault_at-then-count.ensures)

pub returns : goal.returns
returns c =
    let rows = c.in_ok-rows.rows in
    let none : repeated (map (λ (row : Tuple × Tuple). row.0) rows) ≡ None = search rules in
    let few : nat_lt MAX_CELLS_OF_REFERENCE (length rows) ≡ false = grind (arith, nat_tests) in
    let same : c.in_ok-cells.field-0.cells ≡ cells_of rows = search rules in
    rows_made c.args.q.now c.args.items.now rows c.in_ok-rows.ensures
    ∙ made rows none few
    ∙ ap (λ (cells : List (Tuple × Tuple)). Ok (record { cells = cells })) (sym same)
