use Rattle.std.proofs.Common.{arith, rules}
use Rattle.mq_levels.proofs.RunLemmas.{has_end, part_of}
use Rattle.mq_levels.proofs.runs.Runs.runs_of.Goals as goal

pub begin_of-requires : goal.begin_of-requires
begin_of-requires c = rw c.deref-2.ensures.value (has_end c.self.inside.ends.items c.self.inside.runs.items c.args.self.now c.self.view_is c.args.node c.requires)

pub index-requires : goal.index-requires
index-requires c =
    let there = has_end c.self.inside.ends.items c.self.inside.runs.items c.args.self.now c.self.view_is c.args.node c.requires in
    let small = c.self.inside.ends.ok in
    omega arith

pub part-requires-clause-begin : goal.part-requires-clause-begin
part-requires-clause-begin c =
    let there = has_end c.self.inside.ends.items c.self.inside.runs.items c.args.self.now c.self.view_is c.args.node c.requires in
    (part_of c.self.inside.ends.items c.self.inside.runs.items c.args.self.now c.self.invariant c.self.view_is c.args.node c.begin_of.result c.index.result.now there (search rules) (search rules)).1.0

pub part-requires-clause-end : goal.part-requires-clause-end
part-requires-clause-end c =
    let there = has_end c.self.inside.ends.items c.self.inside.runs.items c.args.self.now c.self.view_is c.args.node c.requires in
    rw c.deref.ensures.value (part_of c.self.inside.ends.items c.self.inside.runs.items c.args.self.now c.self.invariant c.self.view_is c.args.node c.begin_of.result c.index.result.now there (search rules) (search rules)).1.1

pub returns : goal.returns
returns c =
    let there = has_end c.self.inside.ends.items c.self.inside.runs.items c.args.self.now c.self.view_is c.args.node c.requires in
    let its = (part_of c.self.inside.ends.items c.self.inside.runs.items c.args.self.now c.self.invariant c.self.view_is c.args.node c.begin_of.result c.index.result.now there (search rules) (search rules)).0 in
    search rules
