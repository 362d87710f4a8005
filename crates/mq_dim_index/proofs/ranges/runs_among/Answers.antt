use Rattle.std.proofs.Common.{◌≡◌, ◌≤◌, ◌++◌, List, get_or, length, map, sym, subst, ap, ◌∙◌, arith}
use Rattle.mq_dim_index.specs.PlaceRuns.{AreRuns, numbers_of}
use Rattle.mq_dim_index.specs.Places.{places_from, places_meeting}
use Rattle.mq_dim_index.specs.declared.place_runs.PlaceRun.{PlaceRun}
use Rattle.mq_dim_index.proofs.PlaceRunLemmas.{each_within}
use Rattle.mq_dim_index.proofs.RangeLemmas.{keys_at_places, places_behind_all}
use Rattle.mq_dim_index.proofs.ranges.runs_among.Goals as goal

pub add_met-requires-clause-apart : goal.add_met-requires-clause-apart
add_met-requires-clause-apart c = let none : 0 ≤ 0 = omega arith in subst (AreRuns 0 0) (sym c.new-runs.ensures.items) none

pub returns-clause-numbers : goal.returns-clause-numbers
returns-clause-numbers c =
    sym (places_behind_all c.args.tests.now c.args.keys.now (numbers_of c.add_met.new.runs.items))
    ∙ c.in_ok-add_met.ensures.numbers
    ∙ ap (λ (runs : List PlaceRun). numbers_of runs ++ places_from 0 c.args.tests.now c.args.keys.now) c.new-runs.ensures.items

pub returns-clause-below : goal.returns-clause-below
returns-clause-below c = each_within c.add_met.new.runs.items 0 (length c.args.keys.now) c.in_ok-add_met.ensures.apart

pub returns-clause-keys : goal.returns-clause-keys
returns-clause-keys c other =
    let numbers : numbers_of c.add_met.new.runs.items ≡ places_meeting c.args.tests.now c.args.keys.now =
    sym (places_behind_all c.args.tests.now c.args.keys.now (numbers_of c.add_met.new.runs.items))
    ∙ c.in_ok-add_met.ensures.numbers
    ∙ ap (λ (runs : List PlaceRun). numbers_of runs ++ places_from 0 c.args.tests.now c.args.keys.now) c.new-runs.ensures.items
    in
    ap (map (λ place. get_or c.args.keys.now place other)) numbers ∙ keys_at_places c.args.tests.now c.args.keys.now other
