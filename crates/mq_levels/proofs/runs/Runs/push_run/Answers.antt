use Rattle.std.proofs.Common.{◌≡◌, ◌∷◌, [], ◌++◌, length, ap, ◌∙◌, rules}
use Rattle.mq_levels.specs.Runs.{RunLists}
use Rattle.mq_levels.proofs.RunLemmas.{ends_longer, next_more, nodes_more}
use Rattle.mq_levels.proofs.runs.Runs.push_run.Goals as goal

pub invariant_of-self-2 : goal.invariant_of-self-2
invariant_of-self-2 c =
    let more : c.push.new.self.items ≡ c.self.inside.runs.items ++ c.args.run ∷ [] = search rules in
    rw more (ends_longer 0 c.self.inside.ends.items (length c.self.inside.runs.items) _ (search rules) c.self.invariant)

pub returns-clause-nodes : goal.returns-clause-nodes
returns-clause-nodes c =
    let more : c.push.new.self.items ≡ c.self.inside.runs.items ++ c.args.run ∷ [] = search rules in
    rw more (nodes_more c.self.inside.ends.items c.self.inside.runs.items (c.args.run ∷ []) c.self.invariant) ∙ ap (λ (lists : RunLists). lists.nodes) c.self.view_is

pub returns-clause-ok : goal.returns-clause-ok
returns-clause-ok c =
    let more : c.push.new.self.items ≡ c.self.inside.runs.items ++ c.args.run ∷ [] = search rules in
    rw more (next_more c.self.inside.ends.items c.self.inside.runs.items (c.args.run ∷ []) c.self.invariant) ∙ ap (λ (lists : RunLists). lists.next ++ c.args.run ∷ []) c.self.view_is
