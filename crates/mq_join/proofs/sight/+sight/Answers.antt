use Rattle.mq_join.proofs.SightLemmas.{sees_more}
use Rattle.mq_join.proofs.sight.+sight.Goals as goal

pub all_see_below-expressions-preserved : goal.all_see_below-expressions-preserved
all_see_below-expressions-preserved t c =
    sees_more c.args.count c.args.es.now c.expressions.e-index c.e-item.result c.expressions-test.true c.e-item.is c.expressions.invariant (c.sees_below.ensures c.if-not-sees_below.false)
