use Rattle.std.proofs.Common.{◌≡◌, suc, ◌+◌, ◌-◌, ◌%◌, ◌≤◌, ◌++◌, length, drop, refl, ap, sym, ◌∙◌, arith, append-nil, length-set}
use Rattle.std.proofs.lemmas.List.{drop_all}
use Rattle.mq_values.specs.Number.{fixed_digits}
use Rattle.mq_values.proofs.WrittenLemmas.{fixed_step, drop-put}
use Rattle.mq_values.proofs.digits.write_fixed.Goals as goal

pub loop-at-init : goal.loop-at-init
loop-at-init c =
    let e : 56 - (56 - c.args.count) ≡ c.args.count = omega arith in
    let full : length c.args.buffer.now ≤ 56 = omega arith in
    record {
      above = omega arith;
      within = omega arith;
      room = c.told-buffer;
      text = rw (e, drop_all 56 c.args.buffer.now full, append-nil) refl;
    }

pub loop-at-preserved : goal.loop-at-preserved
loop-at-preserved c =
    let l = c.loop-at in
    let k = l.at - 1 - (56 - c.args.count) in
    let e : l.at - (56 - c.args.count) ≡ suc k = omega arith in
    record {
      above = omega arith;
      within = omega arith;
      room = length-set l.buffer (l.at - 1) (48 + l.left % 10) ∙ l.invariant.room;
      text = rw (drop-put l.buffer l.at (48 + l.left % 10) (omega arith) (omega arith))
          (sym (fixed_step k l.left (drop l.at l.buffer)) ∙ ap (λ n. fixed_digits n l.left ++ drop l.at l.buffer) (sym e) ∙ l.invariant.text);
    }
