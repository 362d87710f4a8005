use Rattle.mq_auto_shape.proofs.WantedLemmas.{all_wanted, none_wanted, wanted_more}
use Rattle.mq_auto_shape.proofs.wanted.wanted_of.Goals as goal

pub assigned-init : goal.assigned-init
assigned-init c = none_wanted c.new-wanted.result.items

pub assigned-preserved : goal.assigned-preserved
assigned-preserved c =
    wanted_more c.assigned.wanted.items c.want.new.wanted.items c.args.assigned.now c.assigned.a-index c.a-item.result c.assigned-test.true c.a-item.is c.want.ensures.kept c.in_ok-want.ensures.there c.assigned.invariant

pub returns : goal.returns
returns c = all_wanted c.assigned.wanted.items c.args.assigned.now c.assigned.a-index c.assigned-test.false c.assigned.invariant
