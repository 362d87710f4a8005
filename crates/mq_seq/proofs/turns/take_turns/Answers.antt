use Rattle.std.proofs.Common.{◌<◌, Ok, ap, arith, ◌∙◌}
use Rattle.std.proofs.lemmas.Result.{err_from_is_err_and}
use Rattle.mq_ir.specs.Iteration.{turn_count}
use Rattle.mq_ir.specs.Unfolding.{model_of}
use Rattle.mq_seq.proofs.TurnLemmas.{rounds_exit, rounds_last, rounds_next}
use Rattle.mq_seq.proofs.turns.take_turns.Goals as goal

pub returns-then-last : goal.returns-then-last
returns-then-last c =
    let model = model_of c.args.m.now in
    let next = c.in_ok-next.next in
    let lt : c.turns.turn < turn_count model = omega (arith, c.count_of-count.ensures) in
    rounds_last model (turn_count model) c.args.grid c.turns.turn c.turns.grid next lt (c.in_ok-next.ensures.exact ∙ ap (λ last. Ok (next, last)) c.if-last.true) c.turns.invariant.rounds

pub returns-in_err-next : goal.returns-in_err-next
returns-in_err-next c =
    let model = model_of c.args.m.now in
    let lt : c.turns.turn < turn_count model = omega (arith, c.count_of-count.ensures) in
    let p = err_from_is_err_and c.from_residual-in_err-next.result c.from_residual-in_err-next.ensures.1 in
    rw (p.1, p.2)
    (rounds_exit model (turn_count model) c.args.grid c.turns.turn c.turns.grid c.in_err-next.field-0.0 lt c.turns.invariant.rounds c.in_err-next.ensures.exact)

pub turns-preserved : goal.turns-preserved
turns-preserved c =
    let model = model_of c.args.m.now in
    let next = c.in_ok-next.next in
    let lt : c.turns.turn < turn_count model = omega (arith, c.count_of-count.ensures) in
    record {
      rounds =
          rounds_next model (turn_count model) c.args.grid c.turns.turn c.turns.grid next lt (c.in_ok-next.ensures.exact ∙ ap (λ last. Ok (next, last)) c.if-last.false)
          c.turns.invariant.rounds;
      same_width = c.in_ok-next.ensures.width ∙ c.turns.invariant.same_width;
    }
