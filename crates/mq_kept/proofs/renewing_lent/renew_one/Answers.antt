use Rattle.std.proofs.Common.{Ok, sym, subst}
use Rattle.mq_kept.specs.Renewed.{HasFollowed, MayFollow}
use Rattle.mq_kept.proofs.RenewLemmas.{has_followed, ready_after}
use Rattle.mq_kept.proofs.renewing_lent.renew_one.Goals as goal

pub put_there-requires-clause-ready : goal.put_there-requires-clause-ready
put_there-requires-clause-ready c =
    ready_after c.args.m.now.part.now c.args.group.now c.input.result.now c.as_slice-gone.result.now c.as_slice-come.result.now
    c.as_slice-gone.ensures c.as_slice-come.ensures c.in_ok-input.field-0 c.in-Some.input c.in-Some.is c.in_ok-input.ensures.input
    (subst (MayFollow c.args.m.now.part.now c.args.group.now) (sym c.input.ensures) c.requires.may)

pub returns-in-Some-clause-followed : goal.returns-in-Some-clause-followed
returns-in-Some-clause-followed c =
    λ renewed. subst (λ old. HasFollowed c.args.m.now.part.now c.args.group.now old c.put_there.new.part.input) c.input.ensures
    (has_followed c.args.m.now.part.now c.args.group.now c.input.result.now c.as_slice-gone.result.now c.as_slice-come.result.now
    c.as_slice-gone.ensures c.as_slice-come.ensures c.in_ok-input.field-0 c.in-Some.input c.in-Some.is c.in_ok-input.ensures.input
    c.put_there.new.part.input (Ok c.put_there.result) c.put_there.ensures.input c.put_there.ensures.there renewed)
