use Rattle.std.proofs.Common.{◌≡◌, ◌+◌, ◌≤◌, true, [], All, vec_len, vec_capacity}
use Rattle.mq_claims.specs.Calls.{IsSeatOf, MayClaim, view_of}
use Rattle.mq_workers.specs.Runs.{IsNew}
use Rattle.mq_workers.proofs.seats.lent.Given as goal

abbrev pub invariant-loop : goal.invariant-loop
invariant-loop g l = IsSeatOf l.board l.first × MayClaim l.first × ((view_of l.first).entries ≡ []) × ((view_of l.first).first ≡ true)
    × ((view_of l.first).splits + l.counter ≡ (view_of l.fn.first).splits) × ((view_of l.first).away ≡ l.counter)
    × (vec_len l.lent ≡ l.counter) × (l.count ≤ vec_capacity l.lent) × All (IsNew l.board) l.lent.items
