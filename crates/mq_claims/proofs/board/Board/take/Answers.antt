use Rattle.std.proofs.Common.{Some, ◌∷◌, sym, ap, ◌∙◌, rules}
use Rattle.atomic_table.specs.Table.{rest}
use Rattle.mq_claims.proofs.board.Board.take.Goals as goal

pub exchange-requires : goal.exchange-requires
exchange-requires g c = let held = c.requires.claimed.2 in (
  search rules,
  (
    Some held.0,
    held.2 ∙ ap
        (λ l. (c.args.k, Some held.0) ∷ rest l) (sym held.2),
  ),
)
