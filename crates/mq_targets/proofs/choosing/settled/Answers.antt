use Rattle.std.proofs.Common.{◌++◌, drop, ◌+◌, Bool, not, ap, ◌∙◌, arith}
use Rattle.std.specs.List.{filter}
use Rattle.mq_ir.specs.Keys.{Tuple, is_among}
use Rattle.mq_targets.proofs.PlaceLemmas.{one_more, one_settled}
use Rattle.mq_targets.proofs.choosing.settled.Goals as goal

pub loop-key-preserved : goal.loop-key-preserved
loop-key-preserved c =
    let wanted = c.args.wanted.now in
    let at = c.loop-key.key-index in
    let missing : Tuple → Bool = λ other. not (is_among c.args.keys.now other) in
    record {
      cells = ap (λ xs. xs ++ drop (at + 1) wanted) c.in_ok-settle.ensures.cells ∙ one_more c.loop-key.cells wanted wanted at c.key-item.result (omega arith) c.key-item.is c.loop-key.invariant.cells;
      created =
          ap (λ xs. xs ++ filter missing (drop (at + 1) wanted)) c.in_ok-settle.ensures.created
          ∙ one_settled missing c.loop-key.created (filter missing wanted) wanted at c.key-item.result (omega arith) c.key-item.is c.loop-key.invariant.created;
    }
