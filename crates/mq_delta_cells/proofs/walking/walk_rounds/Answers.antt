use Rattle.std.proofs.Common.{◌+◌, refl, sym, subst, ◌∙◌, arith}
use Rattle.mq_auto_shape.specs.Found.{AreRoundsOf}
use Rattle.mq_delta_cells.specs.Marks.{Marks}
use Rattle.mq_delta_cells.specs.Walks.{IsDue, ground_of, model_at}
use Rattle.mq_delta_cells.proofs.GroundLemmas.{solid}
use Rattle.mq_delta_cells.proofs.RoundLemmas.{rounds_next, rounds_reads, rounds_within}
use Rattle.mq_delta_cells.proofs.WalkLemmas.{round_is, round_within, walk_start, walk_values}
use Rattle.mq_delta_cells.proofs.walking.walk_rounds.Goals as goal

pub rounds-init : goal.rounds-init
rounds-init g c =
    let work = c.args.work.now in
    let firm = solid (model_at work) work.seeds.now.old.now work.shape.now work.seeds.now.moved.now work.course.now c.requires.course in
    record {
      walked = walk_start (ground_of work) firm (g.C.Cells.input c.args.cells.now) (g.C.Cells.results c.args.cells.now) c.new-changed.result c.new-changed.ensures;
      reads = omega arith;
      due = subst (λ (changed : Marks). IsDue (ground_of work) changed c.in_ok-due.due.items) (sym c.new-changed.ensures) c.in_ok-due.ensures;
      same = refl;
    }

pub walk_round-requires-clause-places : goal.walk_round-requires-clause-places
walk_round-requires-clause-places g c =
    let work = c.args.work.now in
    let rounds = c.as_slice-round-items.result.now in
    let are = subst (AreRoundsOf (model_at work) work.shape.now) (sym c.as_slice-round-items.ensures) c.requires.course.rounds in
    let is = c.as_slice.ensures ∙ round_is (model_at work) work.shape.now rounds c.rounds.round-index c.round-item.result are c.rounds-test.true c.round-item.is in
    round_within (model_at work) work.shape.now c.rounds.round-index c.as_slice.result.now is

pub rounds-preserved : goal.rounds-preserved
rounds-preserved g c =
    let work = c.args.work.now in
    let ground = ground_of work in
    let firm = solid (model_at work) work.seeds.now.old.now work.shape.now work.seeds.now.moved.now work.course.now c.requires.course in
    let rounds = c.as_slice-round-items.result.now in
    let are = subst (AreRoundsOf (model_at work) work.shape.now) (sym c.as_slice-round-items.ensures) c.requires.course.rounds in
    let n = c.rounds.round-index in
    let round = c.as_slice.result.now in
    let is = c.as_slice.ensures ∙ round_is (model_at work) work.shape.now rounds n c.round-item.result are c.rounds-test.true c.round-item.is in
    let given = g.C.Cells.input c.args.cells.now in
    let given' = g.C.Cells.input c.rounds.cells in
    let first = g.C.Cells.results c.args.cells.now in
    let results = g.C.Cells.results c.rounds.cells in
    record {
      walked =
          rounds_next ground firm given given' first n round c.rounds.invariant.same is c.rounds.changed results c.rounds.invariant.walked c.walk_round.new.changed
          (g.C.Cells.results c.walk_round.new.cells) c.in_ok-walk_round.ensures.walked;
      reads =
          rounds_reads ground firm given given' first n round c.rounds.invariant.same is c.rounds.changed results c.rounds.invariant.walked
          (g.C.Cells.looks c.args.cells.now) (g.C.Cells.looks c.rounds.cells) (g.C.Cells.looks c.walk_round.new.cells) c.rounds.invariant.reads
          c.in_ok-walk_round.ensures.reads;
      due = c.in_ok-walk_round.ensures.due;
      same = c.in_ok-walk_round.ensures.same_input ∙ c.rounds.invariant.same;
    }

pub returns-in_err-walk_round-clause-reads : goal.returns-in_err-walk_round-clause-reads
returns-in_err-walk_round-clause-reads g c =
    let work = c.args.work.now in
    let ground = ground_of work in
    let firm = solid (model_at work) work.seeds.now.old.now work.shape.now work.seeds.now.moved.now work.course.now c.requires.course in
    let rounds = c.as_slice-round-items.result.now in
    let are = subst (AreRoundsOf (model_at work) work.shape.now) (sym c.as_slice-round-items.ensures) c.requires.course.rounds in
    let n = c.rounds.round-index in
    let round = c.as_slice.result.now in
    let is = c.as_slice.ensures ∙ round_is (model_at work) work.shape.now rounds n c.round-item.result are c.rounds-test.true c.round-item.is in
    rounds_within ground (n + 1) (g.C.Cells.looks c.args.cells.now) (g.C.Cells.looks c.walk_round.new.cells)
    (rounds_reads ground firm (g.C.Cells.input c.args.cells.now) (g.C.Cells.input c.rounds.cells) (g.C.Cells.results c.args.cells.now) n round c.rounds.invariant.same is
    c.rounds.changed (g.C.Cells.results c.rounds.cells) c.rounds.invariant.walked
    (g.C.Cells.looks c.args.cells.now) (g.C.Cells.looks c.rounds.cells) (g.C.Cells.looks c.walk_round.new.cells) c.rounds.invariant.reads
    c.walk_round.ensures.reads)

pub returns-clause-values : goal.returns-clause-values
returns-clause-values g c =
    let work = c.args.work.now in
    let firm = solid (model_at work) work.seeds.now.old.now work.shape.now work.seeds.now.moved.now work.course.now c.requires.course in
    let rounds = c.as_slice-round-items.result.now in
    let are = subst (AreRoundsOf (model_at work) work.shape.now) (sym c.as_slice-round-items.ensures) c.requires.course.rounds in
    walk_values (ground_of work) firm (g.C.Cells.input c.args.cells.now) (g.C.Cells.results c.args.cells.now) rounds c.rounds.round-index c.rounds.changed
    (g.C.Cells.results c.rounds.cells) are c.rounds-test.false c.rounds.invariant.walked

pub returns-clause-reads : goal.returns-clause-reads
returns-clause-reads g c =
    rounds_within (ground_of c.args.work.now) c.rounds.round-index (g.C.Cells.looks c.args.cells.now) (g.C.Cells.looks c.rounds.cells) c.rounds.invariant.reads
