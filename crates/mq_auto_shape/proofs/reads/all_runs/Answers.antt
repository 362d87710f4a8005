use Rattle.std.proofs.Common.{◌+◌, ◌++◌, List, drop, map, ap, sym, subst, ◌∙◌}
use Rattle.std.specs.List.{All}
use Rattle.std.proofs.lemmas.List.Elements.{All-get_or}
use Rattle.mq_ir.specs.Shape.{Assignment}
use Rattle.mq_ir.specs.Unfolding.{model_of}
use Rattle.mq_auto_shape.specs.declared.lane_reads.LaneRun.{LaneRun}
use Rattle.mq_auto_shape.specs.Edges.{AreWanted, reads_of}
use Rattle.mq_auto_shape.specs.Found.{IsRuled}
use Rattle.mq_auto_shape.specs.LaneRuns.{numbers_of, reads_in_lanes}
use Rattle.mq_auto_shape.proofs.EdgeLemmas.{reads_more}
use Rattle.mq_auto_shape.proofs.reads.all_runs.Goals as goal

pub runs_at-requires-clause-wanted : goal.runs_at-requires-clause-wanted
runs_at-requires-clause-wanted c =
    subst (λ wanted. AreWanted wanted c.args.shape.now.assigned) (sym c.deref.ensures.value)
    (subst (λ (assigned : List Assignment). AreWanted c.in_ok-wanted.wanted.items assigned) c.as_slice-assigned.ensures c.in_ok-wanted.ensures)

pub runs_at-requires-clause-ruled : goal.runs_at-requires-clause-ruled
runs_at-requires-clause-ruled c =
    let model = model_of c.args.m.now in
    let xs = c.as_slice-assigned.result.now in
    let i = c.assigned.a-index in
    subst (IsRuled model) (sym c.a-item.is)
    (All-get_or (IsRuled model) xs i c.a-item.result c.assigned-test.true (subst (All (IsRuled model)) (sym c.as_slice-assigned.ensures) c.requires.ruled))

pub assigned-preserved : goal.assigned-preserved
assigned-preserved c =
    let lanes = c.args.numbers.now.lanes in
    let f = reads_of (model_of c.args.m.now) c.args.shape.now in
    let xs = c.as_slice-assigned.result.now in
    let i = c.assigned.a-index in
    ap (λ (l : List (List LaneRun)). reads_in_lanes lanes l ++ map f (drop (i + 1) xs)) c.in_ok-push.ensures.items
    ∙ reads_more f (numbers_of lanes) xs c.assigned.lists.items c.in_ok-runs_at.field-0 i c.a-item.result (map f xs) c.assigned-test.true c.a-item.is
    c.in_ok-runs_at.ensures c.assigned.invariant
