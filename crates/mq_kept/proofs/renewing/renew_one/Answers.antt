use Rattle.mq_kept.proofs.RenewLemmas.{has_followed, ready_after}
use Rattle.mq_kept.proofs.renewing.renew_one.Goals as goal

pub renew_there-requires-clause-ready : goal.renew_there-requires-clause-ready
renew_there-requires-clause-ready c =
    ready_after c.args.m.now.part.now c.args.group.now c.args.part.now.input c.as_slice-gone.result.now c.as_slice-come.result.now
    c.as_slice-gone.ensures c.as_slice-come.ensures c.in_ok-input.field-0 c.in-Some.input c.in-Some.is c.in_ok-input.ensures.input c.requires.may

pub returns-in-Some-clause-followed : goal.returns-in-Some-clause-followed
returns-in-Some-clause-followed c =
    has_followed c.args.m.now.part.now c.args.group.now c.args.part.now.input c.as_slice-gone.result.now c.as_slice-come.result.now
    c.as_slice-gone.ensures c.as_slice-come.ensures c.in_ok-input.field-0 c.in-Some.input c.in-Some.is c.in_ok-input.ensures.input
    c.renew_there.new.part.input c.renew_there.result c.renew_there.ensures.input c.renew_there.ensures.there
