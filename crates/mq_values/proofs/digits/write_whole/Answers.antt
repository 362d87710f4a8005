use Rattle.std.proofs.Common.{◌+◌, ◌-◌, ◌%◌, drop, sym, ◌∙◌, arith, length-set}
use Rattle.mq_values.proofs.WrittenLemmas.{decimal_front, drop-put, length_whole, length_step}
use Rattle.mq_values.proofs.digits.write_whole.Goals as goal

pub overflow_sub-at : goal.overflow_sub-at
overflow_sub-at c = omega (arith, length_whole c.args.whole c.requires.whole, length_step c.loop-left.left (omega arith) (omega arith))

pub loop-left-preserved : goal.loop-left-preserved
loop-left-preserved c =
    let l = c.loop-left in
    let long = length_whole c.args.whole c.requires.whole in
    let step = length_step l.left (omega arith) (omega arith) in
    record {
      below = omega arith;
      within = omega arith;
      room = length-set l.buffer (l.at - 1) (48 + l.left % 10) ∙ l.invariant.room;
      size = omega arith;
      text = rw (drop-put l.buffer l.at (48 + l.left % 10) (omega arith) (omega arith)) (sym (decimal_front l.left (drop l.at l.buffer) (omega arith) (omega arith)) ∙ l.invariant.text);
    }

pub write_digits-requires : goal.write_digits-requires
write_digits-requires c = let long = length_whole c.args.whole c.requires.whole in (omega arith, omega arith)

pub returns-clause-room : goal.returns-clause-room
returns-clause-room c = let long = length_whole c.args.whole c.requires.whole in omega arith
