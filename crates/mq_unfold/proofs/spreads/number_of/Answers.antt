use Rattle.std.proofs.Common.{length, map, drop, ◌+◌}
use Rattle.mq_ir.specs.LeftLaws.{product_of}
use Rattle.mq_unfold.proofs.CountLemmas.{counted_on}
use Rattle.mq_unfold.proofs.ListLemmas.{next_item}
use Rattle.mq_unfold.proofs.spreads.number_of.Goals as goal

pub loop-spread-preserved : goal.loop-spread-preserved
loop-spread-preserved c =
    let spreads = c.args.spreads.now in
    let i = c.loop-spread.spread-index in
    let d = next_item spreads i c.spread-item.result c.loop-spread-test.true c.spread-item.is in
    let h = rw d at c.loop-spread.invariant in
    rw c.saturating_mul-number.ensures
    (counted_on c.loop-spread.number c.count.result (length c.spread-item.result) (product_of (map length (drop (i + 1) spreads))) (product_of (map length spreads)) c.count.ensures h)
