use Rattle.mq_dim_index.proofs.RunLemmas.{missed_below}
use Rattle.mq_dim_index.proofs.runs.start_of.Goals as goal

pub returns-in-Some-clause-missed : goal.returns-in-Some-clause-missed
returns-in-Some-clause-missed c =
    missed_below c.args.dimension c.in-Some.bound.now c.args.keys.now c.keys_below.result c.args.test.now c.in-Some.ensures c.requires.ascending c.requires.valued
    c.keys_below.ensures.within c.keys_below.ensures.before
