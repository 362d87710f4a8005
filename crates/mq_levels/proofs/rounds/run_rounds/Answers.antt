use Rattle.std.proofs.Common.{◌≡◌, ◌<◌, ◌++◌, [], suc, length, sym, ◌∙◌, arith, add-one, rules}
use Rattle.std.proofs.lemmas.Grind.{common_steps}
use Rattle.std.proofs.lemmas.List.{nil_from_length}
use Rattle.std.specs.List.{All}
use Rattle.mq_levels.specs.Numbers.{AreMarked, AreNumbered}
use Rattle.mq_levels.specs.Rounds.{AllMoving}
use Rattle.mq_levels.proofs.PlaceLemmas.{places_later}
use Rattle.mq_levels.proofs.RoundLemmas.{ends, ends_at_length, next_moving, next_numbered, numbers_grow, ready_below}
use Rattle.mq_levels.proofs.rounds.run_rounds.Goals as goal

pub returns-then-is_empty : goal.returns-then-is_empty
returns-then-is_empty g c =
    let reads = g.R.Reads.reads c.args.reads.now in
    let num = c.loop-number.invariant.1.1.0 in
    let moving = c.loop-number.invariant.1.1.1 in
    let none : c.loop-number.ready.items ≡ [] = nil_from_length c.loop-number.ready.items (grind (arith, common_steps)) in
    ends reads c.requires.reads c.loop-number.number c.loop-number.numbers c.loop-number.waiters c.loop-number.ready.items num moving (omega arith) none

pub mark-requires : goal.mark-requires
mark-requires g c =
    let reads = g.R.Reads.reads c.args.reads.now in
    let num = c.loop-number.invariant.1.1.0 in
    let moving = c.loop-number.invariant.1.1.1 in
    let below : All (λ node. node < length c.loop-number.numbers) c.loop-number.ready.items = rw num.long (ready_below reads c.requires.reads c.loop-number.number c.loop-number.numbers c.loop-number.waiters c.loop-number.ready.items num moving) in
    rw c.deref.ensures.value below

pub wake-requires-clause-nodes : goal.wake-requires-clause-nodes
wake-requires-clause-nodes g c =
    let reads = g.R.Reads.reads c.args.reads.now in
    let num = c.loop-number.invariant.1.1.0 in
    let moving = c.loop-number.invariant.1.1.1 in
    rw c.deref-in-loop-number.ensures.value (ready_below reads c.requires.reads c.loop-number.number c.loop-number.numbers c.loop-number.waiters c.loop-number.ready.items num moving)

pub wake-requires-clause-places : goal.wake-requires-clause-places
wake-requires-clause-places g c =
    let reads = g.R.Reads.reads c.args.reads.now in
    let num = c.loop-number.invariant.1.1.0 in
    let moving = c.loop-number.invariant.1.1.1 in
    let some : 0 < length c.loop-number.ready.items = grind (arith, common_steps) in
    let marked : AreMarked c.loop-number.ready.items c.loop-number.number c.loop-number.numbers c.mark.new.numbers = rw (sym c.deref.ensures.value) c.mark.ensures in
    places_later reads (g.R.Reads.is_place c.args.reads.now) (g.R.Reads.left c.args.reads.now) c.loop-number.numbers c.loop-number.places c.loop-number.invariant.1.0 c.mark.new.numbers
    (numbers_grow reads c.requires.reads c.loop-number.number c.loop-number.numbers c.loop-number.waiters c.loop-number.ready.items num moving c.mark.new.numbers some marked)

pub loop-number-preserved : goal.loop-number-preserved
loop-number-preserved g c =
    let reads = g.R.Reads.reads c.args.reads.now in
    let num = c.loop-number.invariant.1.1.0 in
    let moving = c.loop-number.invariant.1.1.1 in
    let some : 0 < length c.loop-number.ready.items = grind (arith, common_steps) in
    let marked : AreMarked c.loop-number.ready.items c.loop-number.number c.loop-number.numbers c.mark.new.numbers = rw (sym c.deref.ensures.value) c.mark.ensures in
    let next : AreNumbered reads (suc c.loop-number.number) c.mark.new.numbers = next_numbered reads c.requires.reads c.loop-number.number c.loop-number.numbers c.loop-number.waiters c.loop-number.ready.items num moving c.mark.new.numbers some marked in
    let to_wake : AllMoving reads (suc c.loop-number.number) c.mark.new.numbers c.loop-number.waiters (c.deref-in-loop-number.result.now ++ []) [] = rw c.deref-in-loop-number.ensures.value (next_moving reads c.requires.reads c.loop-number.number c.loop-number.numbers c.loop-number.waiters c.loop-number.ready.items num moving c.mark.new.numbers some marked) in
    let woken = c.in_ok-ready-2.ensures.woken (suc c.loop-number.number) [] next to_wake in (
      c.in_ok-ready-2.ensures.long ∙ c.loop-number.invariant.0,
      (c.in_ok-ready-2.ensures.places, (rw add-one next, rw add-one woken)),
    )

pub returns : goal.returns
returns g c =
    let reads = g.R.Reads.reads c.args.reads.now in
    let end : c.loop-number.number ≡ length reads = omega arith in
    let done : AreNumbered reads (length reads) c.loop-number.numbers = rw end at c.loop-number.invariant.1.1.0 in
    let nodes : c.len-nodes.result ≡ length reads = search rules in
    rw nodes (ends_at_length reads c.loop-number.numbers c.requires.reads done)
