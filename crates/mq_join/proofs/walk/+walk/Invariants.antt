use Rattle.std.proofs.Common.{◌≡◌, [], ◌+◌, ◌-◌, ◌*◌, length}
use Rattle.std.specs.Prelude.{slice_index_or}
use Rattle.std.specs.List.{range_with_len}
use Rattle.mq_join.specs.Walk.{counts_from, joined_step, rows_at_place, rows_at_places}
use Rattle.mq_join.proofs.MatchLemmas.{Stands, left_from, rest_at}
use Rattle.mq_join.proofs.TurnLemmas.{rest_of}
use Rattle.mq_join.proofs.walk.+walk.Given as goal

abbrev pub invariant-rows_at_places-places : goal.invariant-rows_at_places-places
invariant-rows_at_places-places l = record {
  same : l.tuple.items ≡ l.fn.tuple.items;
  rest :
      rest_of (rows_at_place (joined_step l.conditions l.items) (counts_from l.items (length l.fn.tuple.items + 1)) l.fn.tuple.items) l.count l.place l.kept
      ≡ rows_at_places (joined_step l.conditions l.items) (counts_from l.items (length l.fn.tuple.items + 1)) l.fn.tuple.items (range_with_len 0 l.count) l.fn.kept;
}

abbrev pub invariant-rows_at_matches-matches : goal.invariant-rows_at_matches-matches
invariant-rows_at_matches-matches l = record {
  same : l.tuple.items ≡ l.fn.tuple.items;
  stands : Stands l.conditions l.items l.fn.tuple.items (slice_index_or l.items (length l.fn.tuple.items) []) l.start.index.now l.at;
  rest :
      rest_at (rows_at_place (joined_step l.conditions l.items) (counts_from l.items (length l.fn.tuple.items + 1)) l.fn.tuple.items) (length (slice_index_or l.items (length l.fn.tuple.items) [])) l.kept l.at
      ≡ rows_at_places (joined_step l.conditions l.items) (counts_from l.items (length l.fn.tuple.items + 1)) l.fn.tuple.items (range_with_len 0 (length (slice_index_or l.items (length l.fn.tuple.items) []))) l.fn.kept;
}

abbrev pub decreases-rows_at_matches-matches : goal.decreases-rows_at_matches-matches
decreases-rows_at_matches-matches l = left_from (length (slice_index_or l.items (length l.fn.tuple.items) [])) l.at

abbrev pub decreases-rows_behind : goal.decreases-rows_behind
decreases-rows_behind l = 4 * (length l.items.now - length l.tuple.now.items) + 3

abbrev pub decreases-rows_of_item : goal.decreases-rows_of_item
decreases-rows_of_item l = 4 * (length l.items.now - length l.tuple.now.items) + 2

abbrev pub decreases-rows_at_places : goal.decreases-rows_at_places
decreases-rows_at_places l = 4 * (length l.items.now - length l.tuple.now.items) + 1

abbrev pub decreases-rows_at_matches : goal.decreases-rows_at_matches
decreases-rows_at_matches l = 4 * (length l.items.now - length l.tuple.now.items) + 1

abbrev pub decreases-rows_at_place : goal.decreases-rows_at_place
decreases-rows_at_place l = 4 * (length l.items.now - length l.tuple.now.items)
