use Rattle.mq_ir.specs.Shape.{Assignment}
use Rattle.mq_values.specs.KeySetLaws.{gather_end, gather_next, gather_start}
use Rattle.mq_auto.proofs.rows.updated_keys.Goals as goal

pub marking-init : goal.marking-init
marking-init c = gather_start (λ (a : Assignment). a.0) c.args.assigned.now c.new-set.result c.new-set.ensures

pub marking-preserved : goal.marking-preserved
marking-preserved c =
    gather_next (λ (a : Assignment). a.0) c.args.assigned.now c.marking.set c.put.new.self c.marking.assignment-index c.assignment-item.result c.in_ok-copy.field-0 c.marking-test.true
    c.assignment-item.is c.in_ok-copy.ensures c.in_ok-put.ensures.ok c.marking.invariant

pub returns : goal.returns
returns c = gather_end (λ (a : Assignment). a.0) c.args.assigned.now c.marking.set c.marking.assignment-index c.marking-test.false c.marking.invariant
