use Rattle.std.proofs.Common.{◌≡◌, ◌++◌, ℕ, Vec, Global, None, Some, drop, sym, ap, ◌∙◌, arith}
use Rattle.std.proofs.lemmas.List.{append-nil}
use Rattle.mq_dim_index.specs.Found.{listed, noted, number_if_met}
use Rattle.mq_dim_index.proofs.FoundLemmas.{one_noted}
use Rattle.mq_dim_index.proofs.ranges.add_found.Goals as goal
use Rattle.mq_dim_index.proofs.ranges.add_found.Goals.{in-Some+in_ok-push, in_default}

pub loop-at-preserved : goal.loop-at-preserved
loop-at-preserved c =
    let keys = c.args.keys.now in
    let found = c.args.found.now in
    let tests = c.args.tests.now in
    let key = c.index-found-at.result in
    let places = c.loop-at.places.items in
    let total = c.args.places.now.items ++ noted tests keys (drop c.args.run.start found) in
    let within = c.requires.within in
    elim c.match-place_if_met.branch [
      | in-Some+in_ok-push w ↦
          let is : number_if_met tests keys key ≡ Some w.in-Some.place = cc (c.place_if_met.ensures, c.as_slice.ensures, w.in-Some.is) in
          let more : c.match-place_if_met.places.items ≡ places ++ listed (number_if_met tests keys key) =
          ap (λ (v : Vec ℕ Global). v.items) w.places-is ∙ w.in_ok-push.ensures.items ∙ sym (ap (λ o. places ++ listed o) is) in
          one_noted tests keys found c.loop-at.at key places c.match-place_if_met.places.items total (omega arith) c.index-found-at.is more c.loop-at.invariant
      | in_default w ↦
          let is : number_if_met tests keys key ≡ None = cc (c.place_if_met.ensures, c.as_slice.ensures, w.in_default.is) in
          let more : c.match-place_if_met.places.items ≡ places ++ listed (number_if_met tests keys key) =
          ap (λ (v : Vec ℕ Global). v.items) w.places-is ∙ sym (append-nil places) ∙ sym (ap (λ o. places ++ listed o) is) in
          one_noted tests keys found c.loop-at.at key places c.match-place_if_met.places.items total (omega arith) c.index-found-at.is more c.loop-at.invariant
    ]
