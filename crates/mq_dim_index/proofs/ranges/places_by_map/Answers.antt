use Rattle.std.proofs.Common.{◌≡◌, ◌++◌, [], List, drop, sym, subst, ap, ◌∙◌, arith}
use Rattle.std.proofs.lemmas.List.{append-nil}
use Rattle.mq_dim_index.specs.Found.{noted}
use Rattle.mq_dim_index.specs.Places.{Tuple}
use Rattle.mq_dim_index.proofs.FoundLemmas.{noted_behind, noted_none, sorted_numbers}
use Rattle.mq_dim_index.proofs.ranges.places_by_map.Goals as goal

pub rows-preserved : goal.rows-preserved
rows-preserved c =
    let tests = c.args.tests.now in
    let keys = c.args.keys.now in
    let found = c.args.map.now.keys in
    let old = c.rows.places.items in
    let new = c.add_found.new.places.items in
    let start = c.in-Some.run'.start in
    let end = c.in-Some.run'.end in
    let row = c.in-Some.ensures.there in
    let ordered = row.ordered in
    let within = row.within in
    let more : new ++ noted tests keys (drop end found) ≡ old ++ noted tests keys (drop start found) =
    subst (λ (l : List Tuple). new ++ noted tests keys (drop end l) ≡ old ++ noted tests keys (drop start l)) c.keys.ensures c.in_ok-add_found.ensures in
    record {
      within = row.within;
      found = more ∙ ap (λ l. old ++ l) (noted_behind tests keys found c.rows.from start row.behind (omega arith) row.between) ∙ c.rows.invariant.found;
    }

pub returns : goal.returns
returns c =
    let places = c.rows.places.items in
    let tests = c.args.tests.now in
    let keys = c.args.keys.now in
    let found = c.args.map.now.keys in
    let from = c.rows.from in
    let none : noted tests keys (drop from found) ≡ [] = noted_none tests keys found from c.rows.invariant.within (c.next_run.ensures.none c.in_default.is) in
    let all : places ≡ noted tests keys found = sym (append-nil places) ∙ sym (ap (λ l. places ++ l) none) ∙ c.rows.invariant.found in
    sorted_numbers tests keys found places c.sort_unstable.new.self.items c.requires.ascending c.requires.mapped all c.sort_unstable.ensures.permutation c.sort_unstable.ensures.sorted
