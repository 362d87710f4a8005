use Rattle.std.proofs.Common.{◌∙◌, [], List, Result, ap, subst, sym}
use Rattle.mq_values.specs.Answers.{Gives, result_map}
use Rattle.mq_values.specs.declared.faults.QueryFault.{QueryFault}
use Rattle.mq_ir.specs.Partitions.{Cells}
use Rattle.mq_ir.specs.Placed.{at_partition}
use Rattle.mq_ir.specs.References.{reference_over}
use Rattle.mq_ir.specs.Results.{each}
use Rattle.mq_sources.specs.References.{cells_of_arrays, reference_found}
use Rattle.mq_answers.proofs.MarkLemmas.{marked_each}
use Rattle.mq_answers.proofs.models.arrays_over.Goals as goal

pub returns : goal.returns
returns g c =
    let tables = g.T.TableSet.tables c.args.tables.now in
    subst (λ (meant : Result (List Cells) QueryFault). Gives (result_map cells_of_arrays c.references_over.result) meant)
    (ap (each (reference_found tables)) c.as_slice.ensures ∙ sym (marked_each (at_partition []) (reference_over tables) c.args.part.now.refs))
    c.references_over.ensures
