use Rattle.std.proofs.Common.{◌≡◌, ◌-◌, Some, [], ◌∷◌, map, sym, subst, rules}
use Rattle.atomic_table.specs.Table.{opening}
use Rattle.mq_claims.specs.Rule.{Follows}
use Rattle.mq_claims.specs.Views.{beginner}
use Rattle.mq_claims.proofs.EndLemmas.{begins}
use Rattle.mq_claims.proofs.board.Board.new.Goals as goal

pub new-requires : goal.new-requires
new-requires g c = let handed = c.of.result.value.items in let slots : c.in_ok-filled.field-0.items ≡ map Some handed = search rules in
    subst (λ xs. Follows handed (opening (0 ∷ 0 ∷ []) xs (beginner handed (c.args.seats - 1)))) (sym slots) (begins handed c.args.seats (search rules) c.requires.seats.0 c.requires.seats.1)
