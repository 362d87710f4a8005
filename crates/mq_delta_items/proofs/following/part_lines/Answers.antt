use Rattle.std.proofs.Common.{rules, ℕ, ◌++◌, List, sym, ap, ◌∙◌}
use Rattle.std.proofs.lemmas.List.{map-id}
use Rattle.std.proofs.lemmas.Iterator.Adapters.{YieldsList-from_vec}
use Rattle.std.proofs.lemmas.Iterator.Consumers.{YieldsList-end, YieldsList-from_enumerate}
use Rattle.mq_delta_items.specs.Following.{stay_of, went_of}
use Rattle.mq_delta_items.specs.Lines.{items_in}
use Rattle.mq_delta_items.proofs.FollowWalkLemmas.{Line, stay_next, went_next}
use Rattle.mq_delta_items.proofs.following.part_lines.Goals as goal

pub lines-preserved : goal.lines-preserved
lines-preserved c =
    let flags = c.args.flags.now in
    let pairs = c.lines.yielded in
    let at = c.in-Some.at in
    let line = c.in-Some.line in
    let b = c.is_gone.result in
    record {
      left =
          stay_next flags c.args.lines.now c.lines.lines c.part_line.new.lines pairs at line b c.lines.invariant.left c.is_gone.ensures
          c.in_ok-part_line.ensures.stay;
      gone =
          went_next flags c.lines.gone c.part_line.new.gone pairs at line b c.lines.invariant.gone c.is_gone.ensures c.in_ok-part_line.ensures.gone;
    }

pub returns-clause-left : goal.returns-clause-left
returns-clause-left c =
    let all = c.args.old in
    let road = YieldsList-from_enumerate {s = c.into_iter-at-iterator.result} (YieldsList-from_vec all (search rules) (search rules)) (search rules) in
    let end = YieldsList-end road c.lines.yielded c.lines.at-iterator c.lines.yielded_by c.next.result c.next.new.self c.in-None.is c.next.ensures.steps in
    c.lines.invariant.left
    ∙ ap (λ (pairs : List (ℕ × Line)). c.args.lines.now ++ stay_of c.args.flags.now pairs) (sym (map-id c.lines.yielded) ∙ end.0)

pub returns-clause-gone : goal.returns-clause-gone
returns-clause-gone c =
    let all = c.args.old in
    let road = YieldsList-from_enumerate {s = c.into_iter-at-iterator.result} (YieldsList-from_vec all (search rules) (search rules)) (search rules) in
    let end = YieldsList-end road c.lines.yielded c.lines.at-iterator c.lines.yielded_by c.next.result c.next.new.self c.in-None.is c.next.ensures.steps in
    c.lines.invariant.gone ∙ ap (λ (pairs : List (ℕ × Line)). items_in (went_of c.args.flags.now pairs)) (sym (map-id c.lines.yielded) ∙ end.0)
