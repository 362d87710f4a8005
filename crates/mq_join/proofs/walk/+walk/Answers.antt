use Rattle.std.proofs.Common.{◌≡◌, ◌∙◌, [], List, Result, length, refl, rules, subst, sym}
use Rattle.std.specs.Prelude.{slice_index_or}
use Rattle.std.proofs.lemmas.Result.{err_from_is_err_and}
use Rattle.mq_values.specs.Answers.{Gives}
use Rattle.mq_values.specs.declared.faults.FaultKind.{FaultKind}
use Rattle.mq_join.specs.Rows.{Joined}
use Rattle.mq_join.specs.Walk.{counts_from, joined_step}
use Rattle.mq_join.proofs.MatchLemmas.{matches_fault, matches_next, matches_start, next_stands, start_stands}
use Rattle.mq_join.proofs.PassingLemmas.{idle_told}
use Rattle.mq_join.proofs.WalkLemmas.{some_item, turns_fault, turns_next}
use Rattle.mq_join.proofs.walk.+walk.Goals as goal

pub rows_behind-returns-then-branch-clause-gives : goal.rows_behind-returns-then-branch-clause-gives
rows_behind-returns-then-branch-clause-gives t c =
    let items = c.args.items.now in
    let front = c.args.tuple.now.items in
    let deciders = c.args.plan.now.deciders.items in
    let d : c.deref.result.now ≡ deciders = cc (c.deref.ensures.value) in
    let p : c.deref-2.result.now ≡ front = cc (c.deref-2.ensures.value) in
    idle_told c.args.conditions.now items front c.deref-2.result.now deciders c.deref.result.now (counts_from items (length front)) c.args.kept d p (c.in_ok-is_idle.ensures c.if-branch.true)
    c.requires.deciders

pub rows_behind-returns-in-Some-clause-gives : goal.rows_behind-returns-in-Some-clause-gives
rows_behind-returns-in-Some-clause-gives t c =
    let items = c.args.items.now in
    let front = c.args.tuple.now.items in
    let l = c.in-Some.ensures.lookup in
    let at : c.len.result ≡ length front = search rules in
    subst (λ (meant : Result (List Joined) FaultKind). Gives c.rows_of_item.result meant)
    (sym (some_item (joined_step c.args.conditions.now items) items front c.in-Some.rows.now c.args.kept c.len.result (length c.in-Some.rows.now) at l.3.0 l.1 refl))
    c.rows_of_item.ensures.gives

pub rows_at_places-returns-in_err-kept-clause-gives :
    goal.rows_at_places-returns-in_err-kept-clause-gives
rows_at_places-returns-in_err-kept-clause-gives t c =
    let items = c.args.items.now in
    let step = joined_step c.args.conditions.now items in
    let p = err_from_is_err_and c.from_residual.result c.from_residual.ensures.1 in
    rw (p.1, p.2)
    (turns_fault step items c.args.tuple.now.items c.places.tuple.items c.args.count c.places.place c.places.kept c.in_err-kept.field-0.0 _ c.places.invariant.same c.places-test.true
    c.in_err-kept.ensures.gives c.places.invariant.rest)

pub rows_at_places-places-preserved : goal.rows_at_places-places-preserved
rows_at_places-places-preserved t c =
    let items = c.args.items.now in
    let step = joined_step c.args.conditions.now items in
    record {
      same = c.in_ok-kept.ensures.same ∙ c.places.invariant.same;
      rest =
          turns_next step items c.args.tuple.now.items c.places.tuple.items c.args.count c.places.place c.places.kept c.in_ok-kept.kept _ c.places.invariant.same c.places-test.true
          c.in_ok-kept.ensures.gives c.places.invariant.rest;
    }

pub rows_at_matches-matches-init : goal.rows_at_matches-matches-init
rows_at_matches-matches-init t c =
    let conditions = c.args.conditions.now in
    let items = c.args.items.now in
    let front = c.args.tuple.now.items in
    let rows = slice_index_or items (length front) [] in
    let x = c.args.start.now.index.now in
    let first = c.args.start.now.first in
    record {
      same = refl;
      stands = start_stands conditions items front rows x first c.requires.start;
      rest = matches_start conditions items front rows x first c.args.kept c.requires.start;
    }

pub rows_at_matches-returns-in_err-kept-clause-gives : goal.rows_at_matches-returns-in_err-kept-clause-gives
rows_at_matches-returns-in_err-kept-clause-gives t c =
    let items = c.args.items.now in
    let front = c.args.tuple.now.items in
    let rows = slice_index_or items (length front) [] in
    let p = err_from_is_err_and c.from_residual.result c.from_residual.ensures.1 in
    rw (p.1, p.2)
    (matches_fault c.args.conditions.now items front rows c.args.start.now.index.now c.in-Some.place c.matches.at c.matches.kept c.matches.tuple.items c.in_err-kept.field-0.0 _ c.in-Some.is
    c.matches.invariant.same c.in_err-kept.ensures.gives c.matches.invariant.stands c.matches.invariant.rest)

pub rows_at_matches-matches-preserved : goal.rows_at_matches-matches-preserved
rows_at_matches-matches-preserved t c =
    let conditions = c.args.conditions.now in
    let items = c.args.items.now in
    let front = c.args.tuple.now.items in
    let rows = slice_index_or items (length front) [] in
    let x = c.args.start.now.index.now in
    record {
      same = c.in_ok-kept.ensures.same ∙ c.matches.invariant.same;
      stands = next_stands conditions items front rows x c.in-Some.place c.matches.at c.behind-at.result c.in-Some.is c.behind-at.ensures c.matches.invariant.stands;
      rest =
          matches_next conditions items front rows x c.in-Some.place c.matches.at c.behind-at.result c.matches.kept c.in_ok-kept.kept c.matches.tuple.items _ c.in-Some.is c.behind-at.ensures
          c.matches.invariant.same c.in_ok-kept.ensures.gives c.matches.invariant.stands c.matches.invariant.rest;
    }
