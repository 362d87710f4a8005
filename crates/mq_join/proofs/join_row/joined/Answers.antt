use Rattle.std.proofs.Common.{◌<◌, ◌≤◌, length, ◌∙◌, arith}
use Rattle.std.proofs.lemmas.List.{take_all}
use Rattle.mq_join.specs.Rows.{joined_at}
use Rattle.mq_join.proofs.PartLemmas.{joined_long, one_pushed}
use Rattle.mq_join.proofs.join_row.joined.Goals as goal

pub items-preserved : goal.items-preserved
items-preserved c =
    let all = joined_at c.args.items.now c.args.places.now in
    let h : c.items.i < length all = omega (arith, joined_long c.args.items.now c.args.places.now) in
    one_pushed all c.items.i c.items.parts.items c.push.new.self.items c.part_at.result h c.part_at.ensures c.items.invariant c.in_ok-push.ensures.items

pub returns : goal.returns
returns c =
    let all = joined_at c.args.items.now c.args.places.now in
    let h : length all ≤ c.items.i = omega (arith, joined_long c.args.items.now c.args.places.now) in
    c.items.invariant ∙ take_all c.items.i all h
