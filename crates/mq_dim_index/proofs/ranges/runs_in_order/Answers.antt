use Rattle.std.proofs.Common.{◌≡◌, ◌++◌, [], drop, length, sym, ap, ◌∙◌, arith}
use Rattle.std.proofs.lemmas.List.{append-nil}
use Rattle.mq_dim_index.specs.PlaceRuns.{numbers_of}
use Rattle.mq_dim_index.specs.Places.{places_from}
use Rattle.mq_dim_index.proofs.PlaceRunLemmas.{up_to}
use Rattle.mq_dim_index.proofs.RangeLemmas.{places_behind, places_none}
use Rattle.mq_dim_index.proofs.RunLemmas.{ascend_first}
use Rattle.mq_dim_index.proofs.ranges.runs_in_order.Goals as goal

pub next_run-requires : goal.next_run-requires
next_run-requires c = ascend_first c.args.keys.now c.requires.ascending

pub add_met-requires-clause-apart : goal.add_met-requires-clause-apart
add_met-requires-clause-apart c = up_to c.rows.runs.items 0 c.rows.from c.in-Some.run'.start c.rows.invariant.apart c.in-Some.ensures.there.behind

pub rows-preserved : goal.rows-preserved
rows-preserved c =
    let row = c.in-Some.ensures.there in
    let ordered = row.ordered in
    let within = row.within in
    record {
      within = row.within;
      found = c.in_ok-add_met.ensures.numbers
          ∙ ap (λ l. numbers_of c.rows.runs.items ++ l) (places_behind c.args.tests.now c.args.keys.now c.rows.from c.in-Some.run'.start row.behind (omega arith) row.between)
          ∙ c.rows.invariant.found;
      apart = c.in_ok-add_met.ensures.apart;
    }

pub returns-clause-numbers : goal.returns-clause-numbers
returns-clause-numbers c =
    let numbers = numbers_of c.rows.runs.items in
    let tests = c.args.tests.now in
    let keys = c.args.keys.now in
    let from = c.rows.from in
    let none : places_from from tests (drop from keys) ≡ [] = places_none tests keys from c.rows.invariant.within (c.next_run.ensures.none c.in_default.is) in
    sym (append-nil numbers) ∙ sym (ap (λ l. numbers ++ l) none) ∙ c.rows.invariant.found

pub returns-clause-apart : goal.returns-clause-apart
returns-clause-apart c = up_to c.rows.runs.items 0 c.rows.from (length c.args.keys.now) c.rows.invariant.apart c.rows.invariant.within
