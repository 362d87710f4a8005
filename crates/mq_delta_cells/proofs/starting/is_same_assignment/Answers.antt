use Rattle.std.proofs.Common.{◌≡◌, false}
use Rattle.std.specs.Ordering.{is_ne}
use Rattle.mq_values.specs.Order.{cmp_key}
use Rattle.mq_delta_cells.proofs.ListLemmas.{key_same}
use Rattle.mq_delta_cells.proofs.StartLemmas.{assignment_same}
use Rattle.mq_delta_cells.proofs.starting.is_same_assignment.Goals as goal

pub returns-then-a-b : goal.returns-then-a-b
returns-then-a-b c =
    let a = c.args.a.now in
    let b = c.args.b.now in
    let same : is_ne (cmp_key a.0 b.0) ≡ false = cc in
    λ told. assignment_same a b (key_same a.0 b.0 same) c.if-a-b.true told
