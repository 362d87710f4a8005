use Rattle.std.proofs.Common.{◌≤◌, length, refl, arith}
use Rattle.std.proofs.lemmas.List.{drop_all}
use Rattle.mq_values.proofs.digits.write_fraction.Goals as goal

pub returns-then-scale-eq0-clause-text : goal.returns-then-scale-eq0-clause-text
returns-then-scale-eq0-clause-text c =
    let full : length c.args.buffer.now ≤ 56 = omega arith in
    rw (c.if-scale-eq0.true, drop_all 56 c.args.buffer.now full) refl
