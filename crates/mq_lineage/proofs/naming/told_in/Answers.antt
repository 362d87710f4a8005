use Rattle.std.proofs.Common.{◌+◌, ◌++◌, List, drop, map, ap, ◌∙◌}
use Rattle.mq_lineage.specs.Held.{is_held}
use Rattle.mq_lineage.specs.Ordered.{names_at, names_in}
use Rattle.mq_lineage.specs.Told.{Told, told_among, told_bare}
use Rattle.mq_lineage.proofs.OrderLemmas.{round_next}
use Rattle.mq_lineage.proofs.TellLemmas.{bare_told, told_next}
use Rattle.mq_lineage.proofs.naming.told_in.Goals as goal

pub rounds-init : goal.rounds-init
rounds-init c =
    ap (λ (told : List Told). told ++ told_among c.args.s.now (is_held c.args.sources.now) (names_in c.args.s.now.assigned c.args.rounds.now))
    (c.in_ok-push_given.ensures ∙ ap (λ (l : List Told). l ++ map told_bare c.args.given.now) c.with_room-told.ensures ∙ bare_told c.args.s.now c.args.given.now c.requires.bare)

pub rounds-preserved : goal.rounds-preserved
rounds-preserved c =
    let s = c.args.s.now in
    let rounds = c.args.rounds.now in
    let i = c.rounds.round-index in
    let round = c.round-item.result in
    told_next s (is_held c.args.sources.now) (names_at s.assigned round) (names_in s.assigned (drop (i + 1) rounds)) (names_in s.assigned (drop i rounds))
    c.rounds.told c.push_round.new.told _
    (round_next s.assigned rounds i round c.rounds-test.true c.round-item.is)
    (c.in_ok-push_round.ensures ∙ ap (λ r. c.rounds.told ++ told_among s (is_held c.args.sources.now) (names_at s.assigned r)) c.as_slice.ensures)
    c.rounds.invariant
