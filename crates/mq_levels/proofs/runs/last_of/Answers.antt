use Rattle.std.proofs.Common.{◌<◌, length, arith, rules}
use Rattle.std.proofs.lemmas.Grind.{common_steps}
use Rattle.mq_levels.proofs.RunLemmas.{last_end_at}
use Rattle.mq_levels.proofs.runs.last_of.Goals as goal

pub returns : goal.returns
returns c =
    let some : 0 < length c.args.ends.now = grind (arith, common_steps) in
    let at = last_end_at 0 c.args.ends.now some in
    search rules
