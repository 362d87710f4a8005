use Rattle.std.proofs.Common.{arith}
use Rattle.mq_ast.specs.Prelude.{OnFront, front_join}
use Rattle.mq_parse_query.proofs.PlainLemmas.{inner_front}
use Rattle.mq_parse_query.proofs.PlainLemmas.{turned, leads_from, on_none}
use Rattle.mq_parse_query.proofs.froms.on_front.Goals as goal

pub returns-in-Some : goal.returns-in-Some
returns-in-Some c = let s = c.in-Some.ensures in (omega (arith, s.0), s.1, leads_from OnFront s.2 front_join)

pub returns-in-None : goal.returns-in-None
returns-in-None c =
    turned c.behind_join.result (on_none c.in-None.ensures) (λ n l. (l.0, l.1, inner_front l.2)) c.behind_join.ensures
