use Rattle.std.proofs.Common.{◌≡◌, false, arith}
use Rattle.std.specs.Ordering.{is_ne}
use Rattle.mq_values.specs.Order.{cmp_key}
use Rattle.mq_delta_cells.proofs.ListLemmas.{key_same, one_more}
use Rattle.mq_delta_cells.proofs.starting.are_same_keys.Goals as goal

pub comparing-preserved : goal.comparing-preserved
comparing-preserved c =
    let a = c.index-a-i.result in
    let b = c.index-b-i.result in
    let same : is_ne (cmp_key a b) ≡ false = cc in
    one_more c.args.a.now c.args.b.now c.comparing.i a b (omega arith) (omega arith) c.index-a-i.is c.index-b-i.is (key_same a b same) c.comparing.invariant
