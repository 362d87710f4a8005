use Rattle.mq_values.specs.KeySets.{Tuple}
use Rattle.mq_values.specs.KeySetLaws.{gather_end, gather_next, gather_start}
use Rattle.mq_values.proofs.key_set.set_of.Goals as goal

pub loop-key-init : goal.loop-key-init
loop-key-init c = gather_start (λ (key : Tuple). key) c.args.keys.now c.new-set.result c.new-set.ensures

pub loop-key-preserved : goal.loop-key-preserved
loop-key-preserved c =
    gather_next (λ (key : Tuple). key) c.args.keys.now c.loop-key.set c.put.new.self c.loop-key.key-index c.key-item.result c.in_ok-copy.field-0 c.loop-key-test.true c.key-item.is
    c.in_ok-copy.ensures c.in_ok-put.ensures.ok c.loop-key.invariant

pub returns : goal.returns
returns c = gather_end (λ (key : Tuple). key) c.args.keys.now c.loop-key.set c.loop-key.key-index c.loop-key-test.false c.loop-key.invariant
