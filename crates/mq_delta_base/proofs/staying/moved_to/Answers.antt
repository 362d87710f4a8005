use Rattle.std.proofs.Common.{rules, ◌≡◌, ◌<◌, ◌≤◌, length}
use Rattle.std.specs.Prelude.{false, slice_index_or}
use Rattle.std.specs.List.{zip}
use Rattle.mq_delta_base.specs.Moves.{place_of}
use Rattle.mq_delta_base.proofs.StayLemmas.{moved_all, moved_long, moved_more}
use Rattle.mq_delta_base.proofs.staying.moved_to.Goals as goal

pub items-preserved : goal.items-preserved
items-preserved c =
    let h : c.items.item < length c.args.tuple.now = search rules in
    let p : c.unwrap_or.result ≡ place_of c.args.moves.now.places (slice_index_or (zip c.args.changed.now c.args.tuple.now) c.items.item (false, 0)) = search rules in
    moved_more c.args.moves.now.places c.args.changed.now c.args.tuple.now c.requires c.items.item c.items.moved.items c.push.new.self.items c.unwrap_or.result h c.items.invariant p
    c.in_ok-push.ensures.items

pub returns-clause-is : goal.returns-clause-is
returns-clause-is c =
    let h : length c.args.tuple.now ≤ c.items.item = search rules in
    moved_all c.args.moves.now.places c.args.changed.now c.args.tuple.now c.requires c.items.item c.items.moved.items h c.items.invariant

pub returns-clause-wide : goal.returns-clause-wide
returns-clause-wide c =
    let h : length c.args.tuple.now ≤ c.items.item = search rules in
    moved_long c.args.moves.now.places c.args.changed.now c.args.tuple.now c.requires c.items.item c.items.moved.items h c.items.invariant
