use Rattle.mq_dim_index.proofs.RunLemmas.{missed_above}
use Rattle.mq_dim_index.proofs.runs.end_of.Goals as goal

pub returns-in-Some-clause-missed : goal.returns-in-Some-clause-missed
returns-in-Some-clause-missed c =
    missed_above c.args.dimension c.in-Some.bound.now c.args.keys.now c.keys_up_to.result c.args.test.now c.in-Some.ensures c.keys_up_to.ensures.behind
