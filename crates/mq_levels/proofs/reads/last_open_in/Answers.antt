use Rattle.std.proofs.Common.{◌≡◌, ◌-◌, ◌<◌, length, [], zero, take, ap, arith, rules}
use Rattle.mq_levels.proofs.PlaceLemmas.{all_left, all_passed, ends_here, front_within, passed_here}
use Rattle.mq_levels.proofs.reads.last_open_in.Goals as goal

pub loop-left-init : goal.loop-left-init
loop-left-init c = (omega arith, all_left c.args.numbers.now (take c.args.count c.args.list.now))

pub bounds-list-left : goal.bounds-list-left
bounds-list-left c = let less = c.loop-left.invariant.0 in omega arith

pub bounds-numbers-read : goal.bounds-numbers-read
bounds-numbers-read c = let less = c.loop-left.invariant.0 in front_within (λ read. read < length c.args.numbers.now) c.args.list.now c.args.count (c.loop-left.left - 1) c.requires.within (omega arith) c.requires.count

pub returns-then-is_none-clause-place : goal.returns-then-is_none-clause-place
returns-then-is_none-clause-place c = let less = c.loop-left.invariant.0 in omega arith

pub returns-then-is_none-clause-ends : goal.returns-then-is_none-clause-ends
returns-then-is_none-clause-ends c =
    let less = c.loop-left.invariant.0 in
    ends_here c.args.numbers.now c.args.list.now (take c.args.count c.args.list.now) c.loop-left.left (omega arith) (omega arith) c.loop-left.invariant.1 (search rules)

pub loop-left-preserved : goal.loop-left-preserved
loop-left-preserved c =
    let less = c.loop-left.invariant.0 in
    (omega arith, passed_here c.args.numbers.now c.args.list.now (take c.args.count c.args.list.now) c.loop-left.left (omega arith) (omega arith) c.loop-left.invariant.1 (search rules))

pub returns-clause-none : goal.returns-clause-none
returns-clause-none c e =
    let end : c.loop-left.left ≡ zero = omega arith in
    let none : take c.loop-left.left c.args.list.now ≡ [] = ap (λ n. take n c.args.list.now) end in
    all_passed c.args.numbers.now (take c.args.count c.args.list.now) (take c.loop-left.left c.args.list.now) c.loop-left.invariant.1 none
