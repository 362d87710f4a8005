use Rattle.std.proofs.Common.{◌-◌, ◌<◌, length, subst, take, arith, rules}
use Rattle.std.specs.List.{range_with_len}
use Rattle.mq_levels.specs.Places.{IsLeft}
use Rattle.mq_levels.specs.Runs.{left_of, written}
use Rattle.mq_levels.proofs.PlaceLemmas.{left_within}
use Rattle.mq_levels.proofs.RunLemmas.{behind_within, found_in_run, front_is_left, run_within, written_last}
use Rattle.mq_levels.proofs.runs.last_open_in.Goals as goal

pub open_count-count-requires : goal.open_count-count-requires
open_count-count-requires c =
    behind_within (λ read. read < length c.args.numbers.now) (written (take c.loop-at.at.whole c.args.runs.now)) (range_with_len c.loop-at.at.start c.loop-at.at.count)
    (left_within (λ read. read < length c.args.numbers.now) c.args.numbers.now (left_of c.args.runs.now c.args.place) (left_of c.args.runs.now c.loop-at.at) c.loop-at.invariant.1 c.requires.within)

pub overflow_add-result : goal.overflow_add-result
overflow_add-result c =
    let within = behind_within (λ read. read < length c.args.numbers.now) (written (take c.loop-at.at.whole c.args.runs.now)) (range_with_len c.loop-at.at.start c.loop-at.at.count)
    (left_within (λ read. read < length c.args.numbers.now) c.args.numbers.now (left_of c.args.runs.now c.args.place) (left_of c.args.runs.now c.loop-at.at) c.loop-at.invariant.1 c.requires.within) in
    let less = c.open_count-count.ensures.less in
    let below = run_within (λ read. read < length c.args.numbers.now) c.loop-at.at.start c.loop-at.at.count (c.open_count-count.result - 1) (omega arith) within in
    let few = c.requires.few in
    search rules

pub returns-then-count-gt0-clause-ends : goal.returns-then-count-gt0-clause-ends
returns-then-count-gt0-clause-ends c =
    found_in_run c.args.numbers.now (left_of c.args.runs.now c.args.place) (written (take c.loop-at.at.whole c.args.runs.now)) c.loop-at.at.start c.loop-at.at.count c.open_count-count.result
    c.loop-at.invariant.1 c.open_count-count.ensures.left (omega arith) (c.open_count-count.ensures.last (omega arith))

pub loop-at-preserved : goal.loop-at-preserved
loop-at-preserved c =
    let less = c.loop-at.invariant.0 in
    let front = front_is_left c.args.numbers.now (left_of c.args.runs.now c.args.place) (written (take c.loop-at.at.whole c.args.runs.now)) c.loop-at.at.start c.loop-at.at.count c.open_count-count.result
    c.loop-at.invariant.1 c.open_count-count.ensures.left (omega arith) in (
      omega arith,
      subst (IsLeft c.args.numbers.now (left_of c.args.runs.now c.args.place)) (written_last c.args.runs.now c.loop-at.at.whole (record { start = 0; count = 0 }) (omega arith) (omega arith)) front,
    )
