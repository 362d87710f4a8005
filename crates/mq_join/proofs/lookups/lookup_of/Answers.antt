use Rattle.mq_join.proofs.DeciderLemmas.{equates, some_turned}
use Rattle.mq_join.proofs.lookups.lookup_of.Goals as goal

pub returns-in-Some-clause-is : goal.returns-in-Some-clause-is
returns-in-Some-clause-is c =
    equates c.args.e.now c.in_ok-a.a c.in_ok-a.b c.args.level c.args.safe c.in-Some.lookup c.in_ok-a.ensures c.in-Some.ensures

pub returns-in-None-clause-is : goal.returns-in-None-clause-is
returns-in-None-clause-is c =
    some_turned c.args.e.now c.in_ok-a.a c.in_ok-a.b c.args.level c.args.safe c.looked_up-in-None.result c.in_ok-a.ensures c.looked_up-in-None.ensures
