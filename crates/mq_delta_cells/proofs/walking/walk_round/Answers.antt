use Rattle.std.proofs.Common.{◌<◌, ◌+◌, sym, subst, ◌∙◌, length, slice_index_or, List, ℕ}
use Rattle.std.proofs.lemmas.Grind.{get_or_default_zero}
use Rattle.std.proofs.lemmas.List.{take_all}
use Rattle.mq_delta_cells.specs.Walks.{IsWalked, ground_of, model_at}
use Rattle.mq_delta_cells.proofs.GroundLemmas.{solid}
use Rattle.mq_delta_cells.proofs.RoundLemmas.{holds_at, round_front, round_next, round_reads}
use Rattle.mq_delta_cells.proofs.walking.walk_round.Goals as goal

pub places-preserved : goal.places-preserved
places-preserved g c =
    let work = c.args.work.now in
    let ground = ground_of work in
    let firm = solid (model_at work) work.seeds.now.old.now work.shape.now work.seeds.now.moved.now work.course.now c.requires.course in
    let round = c.args.round.now in
    let i = c.places.place-index in
    let place = slice_index_or round i 0 in
    let lt = c.places-test.true in
    let is = sym (get_or_default_zero round i place lt) in
    let within = holds_at (λ place. place < length work.shape.now.assigned) round i place lt is c.requires.places in
    let given = g.C.Cells.input c.args.cells.now in
    let given' = g.C.Cells.input c.places.cells in
    let results = g.C.Cells.results c.places.cells in
    let after = g.C.Cells.results c.visit.new.cells in
    record {
      walked =
          λ first n comes h.
          round_next ground firm given given' first n round i place lt is within c.places.invariant.same comes c.places.changed c.visit.new.changed results after
          (c.places.invariant.walked first n comes h) c.steps_read_their_looks.ensures c.in_ok-visit.ensures.visited;
      reads =
          λ first n comes h.
          round_reads ground firm given given' first n round i place lt is within c.places.invariant.same comes c.places.changed c.visit.new.changed results after
          (c.places.invariant.walked first n comes h) (g.C.Cells.looks c.args.cells.now) (g.C.Cells.looks c.places.cells) (g.C.Cells.looks c.visit.new.cells)
          (c.places.invariant.reads first n comes h) c.in_ok-visit.ensures.reads;
      due = c.in_ok-visit.ensures.due;
      same = c.in_ok-visit.ensures.same_input ∙ c.places.invariant.same;
    }

pub returns-in_err-visit-clause-reads : goal.returns-in_err-visit-clause-reads
returns-in_err-visit-clause-reads g c =
    let work = c.args.work.now in
    let ground = ground_of work in
    let firm = solid (model_at work) work.seeds.now.old.now work.shape.now work.seeds.now.moved.now work.course.now c.requires.course in
    let round = c.args.round.now in
    let i = c.places.place-index in
    let place = slice_index_or round i 0 in
    let lt = c.places-test.true in
    let is = sym (get_or_default_zero round i place lt) in
    let within = holds_at (λ place. place < length work.shape.now.assigned) round i place lt is c.requires.places in
    let given = g.C.Cells.input c.args.cells.now in
    let given' = g.C.Cells.input c.places.cells in
    let results = g.C.Cells.results c.places.cells in
    let after = g.C.Cells.results c.visit.new.cells in
    λ first n comes h.
    round_front ground round (i + 1) (g.C.Cells.looks c.args.cells.now) (g.C.Cells.looks c.visit.new.cells)
    (round_reads ground firm given given' first n round i place lt is within c.places.invariant.same comes c.places.changed c.visit.new.changed results after
    (c.places.invariant.walked first n comes h) (g.C.Cells.looks c.args.cells.now) (g.C.Cells.looks c.places.cells) (g.C.Cells.looks c.visit.new.cells)
    (c.places.invariant.reads first n comes h) c.visit.ensures.reads)

pub returns-clause-walked : goal.returns-clause-walked
returns-clause-walked g c =
    λ first n comes h.
    subst (λ (met : List ℕ). IsWalked (ground_of c.args.work.now) (g.C.Cells.input c.args.cells.now) first n met c.places.changed (g.C.Cells.results c.places.cells))
    (take_all c.places.place-index c.args.round.now c.places-test.false) (c.places.invariant.walked first n comes h)

pub returns-clause-reads : goal.returns-clause-reads
returns-clause-reads g c =
    λ first n comes h.
    round_front (ground_of c.args.work.now) c.args.round.now c.places.place-index (g.C.Cells.looks c.args.cells.now) (g.C.Cells.looks c.places.cells)
    (c.places.invariant.reads first n comes h)
