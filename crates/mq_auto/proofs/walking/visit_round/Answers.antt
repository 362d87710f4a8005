use Rattle.std.proofs.Common.{refl, sym, ◌∙◌, slice_index_or}
use Rattle.std.proofs.lemmas.Grind.{get_or_default_zero}
use Rattle.mq_auto.specs.Walks.{model_in}
use Rattle.mq_auto.proofs.WalkLemmas.{found_all, found_next, found_start}
use Rattle.mq_auto.proofs.walking.visit_round.Goals as goal

pub places-init : goal.places-init
places-init g c = record {
  found = found_start (model_in c.args.work.now) c.args.work.now.shape.now (g.C.Cells.input c.args.cells.now) (g.C.Cells.results c.args.cells.now) (g.C.Cells.results c.args.cells.now) c.args.round.now refl;
  same = refl;
}

pub places-preserved : goal.places-preserved
places-preserved g c =
    let i = c.places.place-index in
    let place = slice_index_or c.args.round.now i 0 in
    record {
      found =
          found_next (model_in c.args.work.now) c.args.work.now.shape.now (g.C.Cells.input c.args.cells.now) (g.C.Cells.input c.places.cells) (g.C.Cells.results c.args.cells.now) (g.C.Cells.results c.places.cells)
          (g.C.Cells.results c.visit.new.cells) c.args.round.now i place c.places-test.true (sym (get_or_default_zero c.args.round.now i place c.places-test.true)) c.places.invariant.same
          c.in_ok-visit.ensures.found c.places.invariant.found;
      same = c.in_ok-visit.ensures.same_input ∙ c.places.invariant.same;
    }

pub returns-clause-found : goal.returns-clause-found
returns-clause-found g c =
    found_all (model_in c.args.work.now) c.args.work.now.shape.now (g.C.Cells.input c.args.cells.now) (g.C.Cells.results c.args.cells.now) (g.C.Cells.results c.places.cells) c.args.round.now c.places.place-index
    c.places-test.false c.places.invariant.found
