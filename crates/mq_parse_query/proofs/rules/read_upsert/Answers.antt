use Rattle.std.proofs.Common.{arith}
use Rattle.mq_ast.specs.declared.clauses.TheConstants as clause
use Rattle.mq_ast.specs.Prelude.{Past, mode_some, mode_upsert, mode_upsert_all}
use Rattle.mq_parse_query.specs.Pieces.{Upserts}
use Rattle.mq_parse_words.specs.StepLemmas.{quit, here, there}
use Rattle.mq_parse_query.proofs.RuleLemmas.{upsert_no_all, upsert_no_end}
use Rattle.mq_parse_query.proofs.rules.read_upsert.Goals as goal

pub returns-in_err-past-in-Some : goal.returns-in_err-past-in-Some
returns-in_err-past-in-Some c =
    quit Upserts c.args.t.now c.args.at c.from_residual.result c.in_err-past-in-Some.field-0.0 c.from_residual.ensures.1 c.in_err-past-in-Some.ensures (λ h. here Upserts (Past clause.MODE) c.in-Some.ensures.2 (upsert_no_all h))

pub returns-in_ok-past-in-Some : goal.returns-in_ok-past-in-Some
returns-in_ok-past-in-Some c = let s = c.in-Some.ensures in (omega (arith, s.0), s.1, there Upserts s.2 (mode_some mode_upsert_all), c.in_ok-past-in-Some.ensures)

pub returns-in_err-past-in-None : goal.returns-in_err-past-in-None
returns-in_err-past-in-None c =
    quit Upserts c.args.t.now c.args.at c.from_residual-in_err-past-in-None.result c.in_err-past-in-None.field-0.0 c.from_residual-in_err-past-in-None.ensures.1 c.in_err-past-in-None.ensures (upsert_no_end c.in-None.ensures)

pub returns-in_ok-past-in-None : goal.returns-in_ok-past-in-None
returns-in_ok-past-in-None c = (omega arith, c.requires, mode_some mode_upsert, c.in_ok-past-in-None.ensures)
