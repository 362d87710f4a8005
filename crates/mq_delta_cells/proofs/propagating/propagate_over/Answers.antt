use Rattle.std.proofs.Common.{◌+◌, ◌≤◌, ℕ, subst, ◌∙◌}
use Rattle.std.proofs.lemmas.Result.{on_ok_weaker}
use Rattle.mq_ir.specs.Unfolding.{model_of}
use Rattle.mq_delta_cells.specs.Bounds.{most_reads}
use Rattle.mq_delta_cells.specs.Walks.{ground_for, reached_on}
use Rattle.mq_delta_cells.proofs.BeginLemmas.{end_begins, end_reads, end_unaffected}
use Rattle.mq_delta_cells.proofs.propagating.propagate_over.Goals as goal

pub returns-clause-values : goal.returns-clause-values
returns-clause-values g c =
    let model = model_of c.args.m.now in
    let new = c.args.new.now in
    let seeds = c.in_ok-seeds.seeds in
    let mid = g.C.Cells.results c.clear_vanished.new.cells in
    on_ok_weaker c.walk_rounds.result
    (λ values before after shaped change.
    let from = c.in_ok-clear_vanished.ensures.same_input ∙ change.given_is in
    record {
      given_is = c.walk_rounds.ensures.same_input ∙ from;
      results_are =
          values after from
          (end_begins model c.args.old.now seeds.old.now new c.args.moved.now seeds.moved.now before after (g.C.Cells.input c.args.cells.now) (g.C.Cells.results c.args.cells.now) new.base
          c.shapes_are_sound.ensures c.results_stay.ensures shaped c.requires.course.ruled c.in_ok-seeds.ensures.old c.in_ok-seeds.ensures.moved change mid
          c.in_ok-clear_vanished.ensures.cleared);
    }) c.walk_rounds.ensures.values

pub returns-clause-unaffected : goal.returns-clause-unaffected
returns-clause-unaffected g c =
    let model = model_of c.args.m.now in
    let new = c.args.new.now in
    let seeds = c.in_ok-seeds.seeds in
    let mid = g.C.Cells.results c.clear_vanished.new.cells in
    on_ok_weaker c.walk_rounds.result
    (λ unreached before after shaped change.
    end_unaffected model c.args.old.now seeds.old.now new c.args.moved.now seeds.moved.now before after (g.C.Cells.input c.args.cells.now) (g.C.Cells.results c.args.cells.now) new.base
    c.shapes_are_sound.ensures c.results_stay.ensures shaped c.requires.course.ruled c.in_ok-seeds.ensures.old c.in_ok-seeds.ensures.moved change mid
    (g.C.Cells.results c.walk_rounds.new.cells) c.in_ok-clear_vanished.ensures.cleared unreached) c.walk_rounds.ensures.unreached

pub returns-clause-reads : goal.returns-clause-reads
returns-clause-reads g c =
    let model = model_of c.args.m.now in
    let new = c.args.new.now in
    let seeds = c.in_ok-seeds.seeds in
    λ before after shaped change.
    end_reads model c.args.old.now seeds.old.now new c.args.moved.now seeds.moved.now before after (g.C.Cells.input c.args.cells.now) (g.C.Cells.results c.args.cells.now) new.base
    c.shapes_are_sound.ensures c.results_stay.ensures shaped c.requires.course.ruled c.in_ok-seeds.ensures.old c.in_ok-seeds.ensures.moved change
    (g.C.Cells.looks c.args.cells.now) (g.C.Cells.looks c.walk_rounds.new.cells)
    (subst (λ (start : ℕ). g.C.Cells.looks c.walk_rounds.new.cells ≤ start + most_reads model new (reached_on (ground_for model seeds.old.now new seeds.moved.now)))
    c.in_ok-clear_vanished.ensures.same_looks c.walk_rounds.ensures.reads)
