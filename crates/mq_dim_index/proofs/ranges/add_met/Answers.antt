use Rattle.std.proofs.Common.{rules, ◌≡◌, ◌<◌, ◌+◌, ◌++◌, Global, Vec, drop, length, sym, subst, ap, ◌∙◌, arith}
use Rattle.mq_dim_index.specs.PlaceRuns.{AreRuns, numbers_of}
use Rattle.mq_dim_index.specs.Places.{meets_every, places_from}
use Rattle.mq_dim_index.specs.declared.place_runs.PlaceRun.{PlaceRun}
use Rattle.mq_dim_index.proofs.PlaceRunLemmas.{one_met, one_unmet, up_to}
use Rattle.mq_dim_index.proofs.ranges.add_met.Goals as goal
use Rattle.mq_dim_index.proofs.ranges.add_met.Goals.{then-meets_every+in_ok-push_place, else-meets_every}

pub loop-at-preserved : goal.loop-at-preserved
loop-at-preserved c =
    let keys = c.args.keys.now in
    let tests = c.args.tests.now in
    let at = c.loop-at.at in
    let runs = c.loop-at.runs.items in
    let key = c.index-keys-at.result in
    let total = numbers_of c.args.runs.now.items ++ places_from c.args.run.start tests (drop c.args.run.start keys) in
    let within = c.requires.within in
    let l : at < length keys = omega arith in
    let told : meets_every tests key ≡ c.meets_every.result = ap (meets_every tests) (sym c.as_slice.ensures) ∙ sym c.meets_every.ensures in
    elim c.if-meets_every.branch [
      | then-meets_every+in_ok-push_place w ↦
          let put : numbers_of c.if-meets_every.runs.items ≡ _ = ap (λ (v : Vec PlaceRun Global). numbers_of v.items) w.runs-is ∙ w.in_ok-push_place.ensures.numbers in
          record {
            found = one_met tests keys at key l c.index-keys-at.is (numbers_of runs) (numbers_of c.if-meets_every.runs.items) total _ put (search rules) (told ∙ w.if-meets_every.true) c.loop-at.invariant.found;
            apart = subst (λ (v : Vec PlaceRun Global). AreRuns 0 (at + 1) v.items) (sym w.runs-is) (up_to w.push_place.new.runs.items 0 _ (at + 1) w.in_ok-push_place.ensures.apart (omega arith));
          }
      | else-meets_every w ↦
          record {
            found = ap (λ (v : Vec PlaceRun Global). numbers_of v.items ++ places_from (at + 1) tests (drop (at + 1) keys)) w.runs-is
                ∙ one_unmet tests keys at key l c.index-keys-at.is (numbers_of runs) total (told ∙ w.if-meets_every.false) c.loop-at.invariant.found;
            apart = subst (λ (v : Vec PlaceRun Global). AreRuns 0 (at + 1) v.items) (sym w.runs-is) (up_to runs 0 at (at + 1) c.loop-at.invariant.apart (omega arith));
          }
    ]
