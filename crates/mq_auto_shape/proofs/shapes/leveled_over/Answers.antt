use Rattle.std.proofs.Common.{◌≡◌, List, Some, length, slice_get, sym, ap, arith, ◌∙◌}
use Rattle.std.specs.List.{filter_map}
use Rattle.mq_ir.specs.Unfolding.{model_of}
use Rattle.mq_auto_shape.specs.declared.lane_reads.LaneRun.{LaneRun}
use Rattle.mq_auto_shape.specs.Edges.{reads_of}
use Rattle.mq_auto_shape.specs.LaneRuns.{reads_in_lanes}
use Rattle.mq_auto_shape.specs.Outcomes.{cycle_at}
use Rattle.mq_auto_shape.proofs.EdgeLemmas.{length_map, reads_nodes}
use Rattle.mq_auto_shape.proofs.LevelLemmas.{cycle_named, no_cycle, rest_there, rounds_there}
use Rattle.mq_auto_shape.proofs.shapes.leveled_over.Goals as goal

pub levels_over-requires-clause-long : goal.levels_over-requires-clause-long
levels_over-requires-clause-long c =
    let model = model_of c.args.m.now in
    let shape = c.args.shape.now in
    let lanes = c.in_ok-numbers.numbers.lanes in
    let same : length (reads_in_lanes lanes c.deref.result.now) ≡ length shape.assigned =
    ap (λ (lists : List (List LaneRun)). length (reads_in_lanes lanes lists)) c.deref.ensures.value ∙ ap length c.in_ok-lists.ensures ∙ length_map (reads_of model shape) shape.assigned in
    omega (arith, same, c.in_ok-numbers.ensures.few)

pub levels_over-requires-clause-reads : goal.levels_over-requires-clause-reads
levels_over-requires-clause-reads c =
    let lanes = c.in_ok-numbers.numbers.lanes in
    reads_nodes (model_of c.args.m.now) c.args.shape.now (reads_in_lanes lanes c.deref.result.now) (ap (reads_in_lanes lanes) c.deref.ensures.value ∙ c.in_ok-lists.ensures)

pub cycle_among-requires : goal.cycle_among-requires
cycle_among-requires c =
    let model = model_of c.args.m.now in
    let shape = c.args.shape.now in
    let lanes = c.in_ok-numbers.numbers.lanes in
    let reads = reads_in_lanes lanes c.deref.result.now in
    let same : length reads ≡ length c.as_slice.result.now =
    ap length (ap (reads_in_lanes lanes) c.deref.ensures.value ∙ c.in_ok-lists.ensures) ∙ length_map (reads_of model shape) shape.assigned ∙ ap length (sym c.as_slice.ensures) in
    rest_there c.as_slice.result.now reads c.as_slice-2.result.now same (c.as_slice-2.ensures ∙ c.in_ok-leveled.ensures.rest)

pub returns-in-Some-clause-exact : goal.returns-in-Some-clause-exact
returns-in-Some-clause-exact c =
    let lanes = c.in_ok-numbers.numbers.lanes in
    cycle_named (model_of c.args.m.now) c.args.shape.now c.requires.own c.requires.ruled (reads_in_lanes lanes c.deref.result.now) (ap (reads_in_lanes lanes) c.deref.ensures.value ∙ c.in_ok-lists.ensures)
    c.in_ok-leveled.leveled.rest c.in_ok-leveled.ensures.rest (Some c.in-Some.fault)
    (sym c.in-Some.is ∙ c.in_ok-fault.ensures.fault ∙ (λ i. cycle_at (filter_map (slice_get (c.as_slice.ensures i)) (c.as_slice-2.ensures i))))

pub returns-clause-exact : goal.returns-clause-exact
returns-clause-exact c =
    let lanes = c.in_ok-numbers.numbers.lanes in
    no_cycle (model_of c.args.m.now) c.args.shape.now c.requires.own c.requires.ruled (reads_in_lanes lanes c.deref.result.now) (ap (reads_in_lanes lanes) c.deref.ensures.value ∙ c.in_ok-lists.ensures)
    c.in_ok-leveled.leveled.rest c.in_ok-leveled.ensures.rest (sym c.as_slice-2.ensures ∙ c.in_ok-fault.ensures.none c.in-None.is)

pub returns-clause-rounds : goal.returns-clause-rounds
returns-clause-rounds c =
    let lanes = c.in_ok-numbers.numbers.lanes in
    rounds_there (model_of c.args.m.now) c.args.shape.now c.requires.own c.requires.ruled (reads_in_lanes lanes c.deref.result.now) (ap (reads_in_lanes lanes) c.deref.ensures.value ∙ c.in_ok-lists.ensures)
    c.in_ok-leveled.leveled.rest c.in_ok-leveled.ensures.rest c.in_ok-leveled.leveled.rounds c.in_ok-leveled.ensures.rounds (sym c.as_slice-2.ensures ∙ c.in_ok-fault.ensures.none c.in-None.is)

pub returns-clause-rest : goal.returns-clause-rest
returns-clause-rest c = sym c.as_slice-2.ensures ∙ c.in_ok-fault.ensures.none c.in-None.is
