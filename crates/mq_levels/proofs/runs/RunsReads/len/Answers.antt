use Rattle.std.proofs.Common.{rules}
use Rattle.mq_levels.proofs.RunLemmas.{reads_count}
use Rattle.mq_levels.proofs.runs.RunsReads.len.Goals as goal

pub returns : goal.returns
returns c =
    let count = reads_count c.self.inside.ends.items c.self.inside.runs.items c.args.self.now c.self.view_is in
    let small = c.self.inside.ends.ok in
    search rules
