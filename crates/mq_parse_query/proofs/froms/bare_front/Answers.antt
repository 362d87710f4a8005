use Rattle.std.proofs.Common.{arith}
use Rattle.mq_ast.specs.Prelude.{BareFront, front_comma}
use Rattle.mq_parse_query.proofs.PlainLemmas.{cross_front}
use Rattle.mq_parse_query.proofs.PlainLemmas.{turned, leads_from, bare_none}
use Rattle.mq_parse_query.proofs.froms.bare_front.Goals as goal

pub returns-in-Some : goal.returns-in-Some
returns-in-Some c = let s = c.in-Some.ensures in (omega (arith, s.0), s.1, leads_from BareFront s.2 front_comma)

pub returns-in-None : goal.returns-in-None
returns-in-None c =
    turned c.behind_join.result (bare_none c.in-None.ensures) (λ n l. (l.0, l.1, cross_front l.2)) c.behind_join.ensures
