use Rattle.std.proofs.Common.{◌+◌, length, ap}
use Rattle.mq_tables.proofs.SeekLemmas.{all_visited, all_within}
use Rattle.mq_tables.proofs.seeking.places_to_visit.Goals as goal

pub returns-in-Ok-Some-clause-outside : goal.returns-in-Ok-Some-clause-outside
returns-in-Ok-Some-clause-outside c = λ at row h e o. (rw c.in-Ok-Some.field-0-is at c.in-Ok-Some.ensures) (at + 1) row (c.places_of.ensures.others at row h e o)

pub returns-in-Ok-Some-clause-within : goal.returns-in-Ok-Some-clause-within
returns-in-Ok-Some-clause-within c = c.places_of.ensures.within

pub returns-in_default-clause-outside : goal.returns-in_default-clause-outside
returns-in_default-clause-outside c = all_visited c.args.filter.now c.args.rows.now c.first.result (length c.as_slice.result.now) c.first.ensures (ap length c.as_slice.ensures)

pub returns-in_default-clause-within : goal.returns-in_default-clause-within
returns-in_default-clause-within c = all_within c.args.rows.now c.first.result (length c.as_slice.result.now) c.first.ensures (ap length c.as_slice.ensures)
