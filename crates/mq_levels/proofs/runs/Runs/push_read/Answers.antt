use Rattle.std.proofs.Common.{◌≡◌, ◌<◌, ◌-◌, ◌++◌, ◌∷◌, [], length, get_or, ap, ◌∙◌, arith, rules}
use Rattle.mq_levels.specs.declared.runs.Run.{Run}
use Rattle.mq_levels.specs.Runs.{RunLists, last_end, nodes_in, written}
use Rattle.mq_levels.proofs.RunLemmas.{last_longer, last_nodes}
use Rattle.mq_levels.proofs.runs.Runs.push_read.Goals as goal

pub returns-in-Some-clause-nodes : goal.returns-in-Some-clause-nodes
returns-in-Some-clause-nodes c =
    let runs = c.self.inside.runs.items in
    let ends = c.self.inside.ends.items in
    let count : c.len-count.result ≡ length runs = search rules in
    let last : c.last_of.result ≡ last_end 0 ends = c.last_of.ensures ∙ ap (last_end 0) c.deref.ensures.value in
    let under : last_end 0 ends < length runs = omega arith in
    rw count (last_nodes ends runs c.in-Some.run' c.index.result.now c.self.invariant under) ∙ ap (λ (lists : RunLists). lists.nodes) c.self.view_is

pub returns-in-Some-clause-ok : goal.returns-in-Some-clause-ok
returns-in-Some-clause-ok c =
    let runs = c.self.inside.runs.items in
    let ends = c.self.inside.ends.items in
    let count : c.len-count.result ≡ length runs = search rules in
    let last : c.last_of.result ≡ last_end 0 ends = c.last_of.ensures ∙ ap (last_end 0) c.deref.ensures.value in
    let under : last_end 0 ends < length runs = omega arith in
    let was : c.index.result.now ≡ get_or runs (length runs - 1) c.index.result.now = search rules in
    let its : nodes_in c.in-Some.run' ≡ nodes_in (get_or runs (length runs - 1) c.index.result.now) ++ c.args.read ∷ [] = c.in-Some.ensures ∙ ap (λ (run : Run). nodes_in run ++ c.args.read ∷ []) was in
    rw count (last_longer ends runs c.in-Some.run' c.index.result.now c.self.invariant under c.args.read its) ∙ ap (λ (lists : RunLists). written lists.next ++ c.args.read ∷ []) c.self.view_is
