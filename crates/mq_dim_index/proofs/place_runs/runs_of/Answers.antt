use Rattle.std.proofs.Common.{◌≤◌, ◌<◌, ◌+◌, [], ◌∷◌, ◌++◌, drop, get_or, length, sym, ap, ◌∙◌, arith}
use Rattle.std.proofs.Math.ListN.{drop_of_length-le}
use Rattle.std.proofs.lemmas.List.{append-nil, append_assoc, drop_more}
use Rattle.mq_dim_index.specs.PlaceRuns.{numbers_of}
use Rattle.mq_dim_index.proofs.PlaceRunLemmas.{rise_next, rise_within, up_to}
use Rattle.mq_dim_index.proofs.place_runs.runs_of.Goals as goal

pub push_place-requires-clause-numbered : goal.push_place-requires-clause-numbered
push_place-requires-clause-numbered c =
    let places = c.args.places.now in
    let i = c.loop-place.place-index in
    let so_far = c.loop-place.invariant.apart in
    let next = rise_next places i 0 so_far.0 c.args.count (omega arith) so_far.2 in
    let end = rise_within (drop (i + 1) places) (get_or places i 0 + 1) c.args.count next.1 in
    omega (arith, c.requires.numbered, end)

pub push_place-requires-clause-apart : goal.push_place-requires-clause-apart
push_place-requires-clause-apart c =
    let places = c.args.places.now in
    let i = c.loop-place.place-index in
    let so_far = c.loop-place.invariant.apart in
    up_to c.loop-place.runs.items 0 so_far.0 (get_or places i 0) so_far.1 (rise_next places i 0 so_far.0 c.args.count (omega arith) so_far.2).0

pub loop-place-preserved : goal.loop-place-preserved
loop-place-preserved c =
    let places = c.args.places.now in
    let i = c.loop-place.place-index in
    let p = get_or places i 0 in
    let l : i < length places = omega arith in
    let numbers = numbers_of c.loop-place.runs.items in
    let rest = drop (i + 1) places in
    let so_far = c.loop-place.invariant.apart in
    record {
      found = ap (λ ns. ns ++ rest) c.in_ok-push_place.ensures.numbers
          ∙ append_assoc numbers (p ∷ []) rest
          ∙ ap (λ ns. numbers ++ ns) (sym (drop_more places i 0 l))
          ∙ c.loop-place.invariant.found;
      apart = (p + 1, c.in_ok-push_place.ensures.apart, (rise_next places i 0 so_far.0 c.args.count l so_far.2).1);
    }

pub returns-clause-numbers : goal.returns-clause-numbers
returns-clause-numbers c =
    let places = c.args.places.now in
    let i = c.loop-place.place-index in
    let numbers = numbers_of c.loop-place.runs.items in
    let done : length places ≤ i = omega arith in
    sym (append-nil numbers) ∙ ap (λ ns. numbers ++ ns) (sym (drop_of_length-le places done)) ∙ c.loop-place.invariant.found

pub returns-clause-apart : goal.returns-clause-apart
returns-clause-apart c =
    let so_far = c.loop-place.invariant.apart in
    up_to c.loop-place.runs.items 0 so_far.0 c.args.count so_far.1 (rise_within (drop c.loop-place.place-index c.args.places.now) so_far.0 c.args.count so_far.2)
