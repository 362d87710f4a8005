use Rattle.std.proofs.Common.{List, ◌++◌, ◌||◌, ap, ◌∙◌}
use Rattle.mq_ir.specs.Keys.{Tuple, is_among}
use Rattle.mq_tables.proofs.OwnLemmas.{both_from_union, joined, joined_first}
use Rattle.mq_tables.proofs.own_keys.OwnKeys.join.Goals as goal

pub returns-then-branch : goal.returns-then-branch
returns-then-branch c q =
    let last = c.self.inside.last.keys in
    let others = c.into_parts-last.result in
    ap (λ (l : List Tuple). is_among (c.append.new.self.keys ++ l) q) (c.in_ok-append-2.ensures.put c.if-branch.true)
    ∙ joined last c.append.new.self.keys c.self.inside.behind others.0.keys others.1 (both_from_union others.0.keys last c.append.new.self.keys c.in_ok-append.ensures.inserts_all.0) q
    ∙ ap (λ (l : List Tuple). is_among l q || is_among (last ++ c.self.inside.behind) q) c.into_parts-last.ensures
    ∙ ap (λ (l : List Tuple). is_among c.args.others q || is_among l q) c.self.view_is

pub returns : goal.returns
returns c q =
    let last = c.self.inside.last.keys in
    let middle = c.append.new.self.keys in
    let others = c.into_parts-last.result in
    let kept = c.in_ok-append-2.ensures.kept c.if-branch.false in
    ap (λ (l : List Tuple). is_among (c.append-3.new.self.keys ++ l) q) kept.0
    ∙ joined_first last middle c.append-3.new.self.keys c.self.inside.behind others.0.keys others.1 (both_from_union others.0.keys last middle c.in_ok-append.ensures.inserts_all.0)
    (λ k. both_from_union c.in_ok-to_set.field-0.keys middle c.append-3.new.self.keys c.in_ok-append-3.ensures.inserts_all.0 k
    ∙ ap (λ (l : List Tuple). is_among l k || is_among middle k) (c.in_ok-to_set.ensures ∙ kept.1)) q
    ∙ ap (λ (l : List Tuple). is_among l q || is_among (last ++ c.self.inside.behind) q) c.into_parts-last.ensures
    ∙ ap (λ (l : List Tuple). is_among c.args.others q || is_among l q) c.self.view_is
