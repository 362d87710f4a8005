use Rattle.std.proofs.Common.{◌∙◌}
use Rattle.std.proofs.lemmas.Result.{on_ok_weaker}
use Rattle.mq_refs.proofs.LookLaws.{put_case_parts}
use Rattle.mq_refs.proofs.walk.+walk.Goals as goal

pub push_looks-returns-in_ok-push_arms-in-Case-clause-shown : goal.push_looks-returns-in_ok-push_arms-in-Case-clause-shown
push_looks-returns-in_ok-push_arms-in-Case-clause-shown g t c =
    let shown = g.V.LeafVisitor.shown c.args.visitor.now in
    on_ok_weaker c.push_if_any-in-Case.result
    (λ put. put
    ∙ put_case_parts (g.V.LeafVisitor.looks c.args.visitor.now) (shown c.args.found.now) (shown c.push_if_any.new.found) (shown c.push_arms.new.found) c.args.e.now _ _ _ c.as_slice-in-Case.result.now c.in-Case.is
    c.as_slice-in-Case.ensures c.in_ok-push_if_any-in-Case.ensures.shown c.in_ok-push_arms-in-Case.ensures.shown)
    c.push_if_any-in-Case.ensures.shown
