use Rattle.std.proofs.Common.{◌≡◌, true, sym, ◌∙◌, arith}
use Rattle.std.proofs.lemmas.List.{take_all}
use Rattle.mq_kept.proofs.ComparingLemmas.{one_further}
use Rattle.mq_kept.proofs.comparing.are_same_cells.Goals as goal

pub loop-at-preserved : goal.loop-at-preserved
loop-at-preserved c =
    let told : c.is_same_cell.result ≡ true = cc in
    one_further c.args.a.now c.args.b.now c.loop-at.at c.index-a-at.result c.index-b-at.result (omega arith) (omega arith) c.index-a-at.is c.index-b-at.is
    (c.is_same_cell.ensures told) c.loop-at.invariant

pub returns : goal.returns
returns c =
    let a = c.args.a.now in
    let b = c.args.b.now in
    λ told. sym (take_all c.loop-at.at a (omega arith)) ∙ c.loop-at.invariant ∙ take_all c.loop-at.at b (omega arith)
