use Rattle.std.proofs.Common.{◌++◌, length, ap, ◌∙◌, arith}
use Rattle.mq_answers.specs.Cuts.{joined}
use Rattle.mq_answers.proofs.StretchLemmas.{cut_behind}
use Rattle.mq_answers.proofs.cuts.cut.Goals as goal

pub cuts-preserved : goal.cuts-preserved
cuts-preserved g c =
    let n = c.last_part.result in
    let left = c.cuts.left.items in
    let front = c.split_off.new.self.items in (
      omega (arith, c.cuts-test.true),
      omega (arith, c.cuts-test.true, c.cuts.invariant.1, ap length c.in_ok-put_first.ensures.ok),
      ap (λ parts. front ++ joined parts) c.in_ok-put_first.ensures.ok
          ∙ cut_behind n left front c.from_vec.result (joined c.cuts.parts) c.args.items c.in_ok-last.ensures.items
          (c.from_vec.ensures ∙ c.in_ok-last.ensures.tail) c.cuts.invariant.2,
    )
