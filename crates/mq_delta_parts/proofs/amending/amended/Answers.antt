use Rattle.std.proofs.Common.{rules, ◌<◌, ℕ, Option, length, subst}
use Rattle.mq_delta_parts.specs.Spans.{Puts}
use Rattle.mq_delta_parts.proofs.WalkLemmas.{walk_next}
use Rattle.mq_delta_parts.proofs.amending.amended.Goals as goal

pub edits-preserved : goal.edits-preserved
edits-preserved c = λ ascends.
    let w = c.edits.invariant ascends in
    let rest = c.edits.rest.now in
    let edit = c.index-edits-at.result in
    let next = c.behind.result.now in
    let within : c.edits.at < length c.args.edits.now = search rules in
    let puts = subst (λ (o : Option ℕ). Puts rest edit next c.edits.kept o c.put_front.new.kept) c.in-Some.is (c.in_ok-end.ensures w.ascends) in
    walk_next c.args.cells.now c.args.edits.now c.edits.at c.edits.kept rest edit next within c.index-edits-at.is c.behind.ensures w
    c.in-Some.end c.put_front.new.kept c.behind-rest.result.now puts c.behind-rest.ensures
