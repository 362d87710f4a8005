use Rattle.std.proofs.Common.{rules, ◌≡◌, ◌≤◌, length}
use Rattle.mq_delta_base.proofs.StayLemmas.{whole}
use Rattle.mq_delta_base.proofs.staying.stays_whole.Goals as goal

pub returns : goal.returns
returns c =
    let h : length c.args.tuple.now ≤ c.items.item = search rules in
    whole c.args.moves.now.places c.args.changed.now c.args.tuple.now c.requires c.items.item h c.items.invariant
