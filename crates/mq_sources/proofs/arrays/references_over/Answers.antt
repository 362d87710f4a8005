use Rattle.mq_sources.specs.References.{cells_of_array, reference_found}
use Rattle.mq_sources.proofs.ListLemmas.{mapped_next}
use Rattle.mq_sources.proofs.arrays.references_over.Goals as goal

pub loop-part-preserved : goal.loop-part-preserved
loop-part-preserved g c =
    mapped_next cells_of_array (reference_found (g.T.TableSet.tables c.args.tables.now)) c.args.parts.now c.loop-part.part-index c.loop-part.arrays c.push.new.self c.part-item.result
    c.in_ok-reference_over.field-0 c.loop-part-test.true c.part-item.is c.in_ok-reference_over.ensures c.in_ok-push.ensures.ok c.loop-part.invariant
