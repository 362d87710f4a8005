use Rattle.std.proofs.Common.{◌++◌, ◌∷◌, drop, length, map, reverse, sym, ap, ◌∙◌}
use Rattle.mq_ir.specs.Partitions.{placed}
use Rattle.mq_ir.specs.Shape.{cmp_assignment}
use Rattle.mq_auto_shape.specs.Walk.{assigned_by, placed_all}
use Rattle.mq_auto_shape.proofs.NodeLemmas.{dropped, popped_front, popped_lacking, put_strict}
use Rattle.mq_auto_shape.proofs.nodes.merged.Goals as goal

pub place-requires-clause-lacking : goal.place-requires-clause-lacking
place-requires-clause-lacking c =
    let all = c.args.keys.items in
    let rest = drop (length c.placing.keys.items) all in
    let front = popped_front c.placing.keys.items c.pop.new.self.items c.in-Some.key rest all c.in-Some.ensures.items c.placing.invariant.front in
    popped_lacking c.args.m c.args.number c.args.nodes.items (c.placing.before.items ++ reverse c.placing.behind.items) c.pop.new.self.items c.in-Some.key rest all
    front c.requires.unassigned c.placing.invariant.placed

pub placing-preserved : goal.placing-preserved
placing-preserved c =
    let all = c.args.keys.items in
    let key = c.in-Some.key in
    let now = c.placing.before.items ++ reverse c.placing.behind.items in
    let rest = drop (length c.placing.keys.items) all in
    let front = popped_front c.placing.keys.items c.pop.new.self.items key rest all c.in-Some.ensures.items c.placing.invariant.front in
    let behind = dropped c.pop.new.self.items (key ∷ rest) all front in
    let lacking =
    popped_lacking c.args.m c.args.number c.args.nodes.items now c.pop.new.self.items key rest all front c.requires.unassigned c.placing.invariant.placed in
    record {
      front = ap (λ l. c.pop.new.self.items ++ l) behind ∙ front;
      placed =
          c.in_ok-place.ensures
          ∙ ap (placed cmp_assignment (assigned_by c.args.m c.args.number key)) c.placing.invariant.placed
          ∙ sym (ap (λ l. placed_all cmp_assignment (map (assigned_by c.args.m c.args.number) l) c.args.nodes.items) behind);
      strict =
          put_strict (assigned_by c.args.m c.args.number key) now (c.place.new.before.items ++ reverse c.place.new.behind.items) c.placing.invariant.strict lacking
          c.in_ok-place.ensures;
    }
