use Rattle.std.proofs.Common.{List, [], Err, sym, ap, subst, ◌∙◌}
use Rattle.std.proofs.lemmas.Result.{err_from_is_err_and}
use Rattle.mq_values.specs.Answers.{Gives, result_map}
use Rattle.mq_ir.specs.Items.{items_over}
use Rattle.mq_ir.specs.Partitions.{Tuple}
use Rattle.mq_ir.specs.Placed.{at_partition, placed_fault}
use Rattle.mq_ir.specs.References.{reference_of}
use Rattle.mq_ir.specs.Results.{marked}
use Rattle.mq_sources.specs.References.{cells_of_array}
use Rattle.mq_sources.proofs.FaultLemmas.{cells_given, first_exit, marked_twice, then_second}
use Rattle.mq_sources.proofs.arrays.reference_over.Goals as goal

pub returns-in_err-items : goal.returns-in_err-items
returns-in_err-items g c =
    let part = c.args.part.now in
    let found = items_over (g.T.TableSet.tables c.args.tables.now) part.source.from part.source.items in
    let p = err_from_is_err_and c.from_residual.result c.from_residual.ensures.1 in
    let twice = marked_twice (placed_fault 0 []) (at_partition []) found in
    rw (p.1, p.2)
    (first_exit (at_partition []) (marked (placed_fault 0 []) found) (reference_of part) c.in_err-items.field-0.0
    (subst (Gives {T = List Tuple} (Err c.in_err-items.field-0.0)) twice c.in_err-items.ensures))

pub returns : goal.returns
returns g c =
    let part = c.args.part.now in
    let found = items_over (g.T.TableSet.tables c.args.tables.now) part.source.from part.source.items in
    let twice = marked_twice (placed_fault 0 []) (at_partition []) found in
    let after = then_second (at_partition []) (marked (placed_fault 0 []) found) (reference_of part) c.in_ok-items.items (sym twice ∙ c.in_ok-items.ensures) in
    subst (Gives (result_map cells_of_array c.reference.result))
    (ap (λ (rows : List Tuple). marked (at_partition []) (reference_of part rows)) c.as_slice.ensures ∙ sym after)
    (cells_given c.reference.result (marked (at_partition []) (reference_of part c.as_slice.result.now)) c.reference.ensures)
