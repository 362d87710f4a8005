use Rattle.std.proofs.Common.{◌≡◌, ◌∷◌, [], ◌++◌, length, ap, ◌∙◌, rules}
use Rattle.mq_levels.specs.Runs.{RunLists}
use Rattle.mq_levels.proofs.RunLemmas.{next_ended, one_end, parts_push}
use Rattle.mq_levels.proofs.runs.Runs.end_node.Goals as goal

pub invariant_of-self-2 : goal.invariant_of-self-2
invariant_of-self-2 c =
    let more : c.push.new.self.items ≡ c.self.inside.ends.items ++ length c.self.inside.runs.items ∷ [] = search rules in
    rw more (one_end 0 c.self.inside.ends.items (length c.self.inside.runs.items) c.self.invariant)

pub returns-clause-ok : goal.returns-clause-ok
returns-clause-ok c =
    let more : c.push.new.self.items ≡ c.self.inside.ends.items ++ length c.self.inside.runs.items ∷ [] = search rules in
    rw more (
      parts_push 0 c.self.inside.ends.items c.self.inside.runs.items ∙ ap (λ (lists : RunLists). lists.nodes ++ lists.next ∷ []) c.self.view_is,
      next_ended c.self.inside.ends.items c.self.inside.runs.items,
    )
