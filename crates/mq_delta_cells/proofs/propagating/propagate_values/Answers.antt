use Rattle.std.proofs.Common.{◌∙◌}
use Rattle.std.proofs.lemmas.Result.{on_ok_weaker}
use Rattle.mq_ir.specs.Unfolding.{model_of}
use Rattle.mq_delta_cells.proofs.BeginLemmas.{end_begins, end_reads, end_unaffected, none_gone}
use Rattle.mq_delta_cells.proofs.propagating.propagate_values.Goals as goal

pub returns-clause-values : goal.returns-clause-values
returns-clause-values g c =
    let model = model_of c.args.m.now in
    let new = c.args.shape.now in
    let seeds = c.in_ok-seeds.seeds in
    let mid = g.C.Cells.results c.args.cells.now in
    on_ok_weaker c.walk_rounds.result
    (λ values before after shaped change.
    let from = change.given_is in
    record {
      given_is = c.walk_rounds.ensures.same_input ∙ from;
      results_are =
          values after from
          (end_begins model c.args.shape.now seeds.old.now new c.args.moved.now seeds.moved.now before after (g.C.Cells.input c.args.cells.now) (g.C.Cells.results c.args.cells.now) new.base
          c.shapes_are_sound.ensures c.results_stay.ensures shaped c.requires.course.ruled c.in_ok-seeds.ensures.old c.in_ok-seeds.ensures.moved change mid
          (none_gone seeds.old.now new c.in_ok-seeds.ensures.old mid));
    }) c.walk_rounds.ensures.values

pub returns-clause-unaffected : goal.returns-clause-unaffected
returns-clause-unaffected g c =
    let model = model_of c.args.m.now in
    let new = c.args.shape.now in
    let seeds = c.in_ok-seeds.seeds in
    let mid = g.C.Cells.results c.args.cells.now in
    on_ok_weaker c.walk_rounds.result
    (λ unreached before after shaped change.
    end_unaffected model c.args.shape.now seeds.old.now new c.args.moved.now seeds.moved.now before after (g.C.Cells.input c.args.cells.now) (g.C.Cells.results c.args.cells.now) new.base
    c.shapes_are_sound.ensures c.results_stay.ensures shaped c.requires.course.ruled c.in_ok-seeds.ensures.old c.in_ok-seeds.ensures.moved change mid
    (g.C.Cells.results c.walk_rounds.new.cells) (none_gone seeds.old.now new c.in_ok-seeds.ensures.old mid) unreached) c.walk_rounds.ensures.unreached

pub returns-clause-reads : goal.returns-clause-reads
returns-clause-reads g c =
    let model = model_of c.args.m.now in
    let new = c.args.shape.now in
    let seeds = c.in_ok-seeds.seeds in
    λ before after shaped change.
    end_reads model c.args.shape.now seeds.old.now new c.args.moved.now seeds.moved.now before after (g.C.Cells.input c.args.cells.now) (g.C.Cells.results c.args.cells.now) new.base
    c.shapes_are_sound.ensures c.results_stay.ensures shaped c.requires.course.ruled c.in_ok-seeds.ensures.old c.in_ok-seeds.ensures.moved change
    (g.C.Cells.looks c.args.cells.now) (g.C.Cells.looks c.walk_rounds.new.cells)
    c.walk_rounds.ensures.reads

pub walk_rounds-requires-clause-seeds : goal.walk_rounds-requires-clause-seeds
walk_rounds-requires-clause-seeds g c = c.in_ok-seeds.ensures.seeds
