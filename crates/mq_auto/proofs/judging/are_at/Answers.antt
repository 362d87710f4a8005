use Rattle.std.proofs.Common.{◌≡◌, false, sym, ap, ◌∙◌, arith}
use Rattle.std.specs.Map.{keys_of}
use Rattle.std.specs.Ordering.{is_ne}
use Rattle.std.proofs.lemmas.List.{take_all}
use Rattle.mq_values.specs.Order.{cmp_key}
use Rattle.mq_auto.proofs.JudgeLemmas.{one_more_at}
use Rattle.mq_auto.proofs.judging.are_at.Goals as goal

pub loop-i-preserved : goal.loop-i-preserved
loop-i-preserved c =
    let cell = c.index-cells-i.result in
    let key = c.index-keys-i.result in
    let same : is_ne (cmp_key cell.0 key) ≡ false = cc in
    one_more_at c.args.cells.now c.args.keys.now c.loop-i.i cell key (omega arith) (omega arith) c.index-cells-i.is c.index-keys-i.is same c.loop-i.invariant

pub returns : goal.returns
returns c =
    let cells = c.args.cells.now in
    let keys = c.args.keys.now in
    let i = c.loop-i.i in
    λ told. sym (ap keys_of (take_all i cells (omega arith))) ∙ c.loop-i.invariant ∙ take_all i keys (omega arith)
