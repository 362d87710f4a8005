use Rattle.std.proofs.Common.{◌+◌, [], ◌∷◌, ℕ, drop, get_or, sym}
use Rattle.std.proofs.lemmas.Grind.{get_or_default_zero}
use Rattle.mq_cells.specs.Stores.{name_assigned}
use Rattle.mq_lineage.specs.Held.{is_held}
use Rattle.mq_lineage.specs.Ordered.{names_at}
use Rattle.mq_lineage.proofs.OrderLemmas.{names_next}
use Rattle.mq_lineage.proofs.TellLemmas.{told_next}
use Rattle.mq_lineage.proofs.naming.push_round.Goals as goal

pub places-preserved : goal.places-preserved
places-preserved c =
    let s = c.args.s.now in
    let round = c.args.round.now in
    let i = c.places.place-index in
    let lt = c.places-test.true in
    let a = c.assigned_at-a.result.now in
    let place : ℕ = get_or round i 0 in
    told_next s (is_held c.args.sources.now) (name_assigned a ∷ []) (names_at s.assigned (drop (i + 1) round)) (names_at s.assigned (drop i round))
    c.places.told c.push_source.new.told _
    (names_next s.assigned round i place a lt (sym (get_or_default_zero round i place lt)) c.assigned_at-a.ensures.there)
    c.in_ok-push_source.ensures c.places.invariant
