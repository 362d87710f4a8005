use Rattle.std.proofs.Common.{arith}
use Rattle.mq_ast.specs.declared.clauses.TheConstants as clause
use Rattle.mq_ast.specs.Prelude.{Past, UntilE, until_none}
use Rattle.mq_parse_words.specs.Reading.{from}
use Rattle.mq_parse_words.specs.StepLemmas.{quit, here, there}
use Rattle.mq_parse_query.proofs.HeadLemmas.{until_no_round, until_no_end, until_no_word, until_whole}
use Rattle.mq_parse_query.proofs.heads.read_until.Goals as goal

pub returns-in_err-e-in-Some : goal.returns-in_err-e-in-Some
returns-in_err-e-in-Some c =
    quit UntilE c.args.t.now c.args.at c.from_residual.result c.in_err-e-in-Some.field-0.0 c.from_residual.ensures.1 c.in_err-e-in-Some.ensures (λ h. here UntilE (Past clause.UNTIL) c.in-Some.ensures.2 (until_no_round h))

pub returns-in_err-past-in-Some : goal.returns-in_err-past-in-Some
returns-in_err-past-in-Some c =
    quit UntilE c.args.t.now c.args.at c.from_residual-in_err-past-in-Some.result c.in_err-past-in-Some.field-0.0 c.from_residual-in_err-past-in-Some.ensures.1 c.in_err-past-in-Some.ensures (λ h. here UntilE (Past clause.UNTIL) c.in-Some.ensures.2 (until_no_end (from c.args.t.now c.in_ok-e-in-Some.to) c.in_ok-e-in-Some.ensures.2 h))

pub returns-in_ok-past-in-Some : goal.returns-in_ok-past-in-Some
returns-in_ok-past-in-Some c =
    let s = c.in-Some.ensures in
    let f = c.in_ok-e-in-Some.ensures in
    (omega (arith, s.0, f.0), f.1, there UntilE s.2 (until_whole f.2), c.in_ok-past-in-Some.ensures)

pub returns-in_err-past-in-None : goal.returns-in_err-past-in-None
returns-in_err-past-in-None c =
    quit UntilE c.args.t.now c.args.at c.from_residual-in_err-past-in-None.result c.in_err-past-in-None.field-0.0 c.from_residual-in_err-past-in-None.ensures.1 c.in_err-past-in-None.ensures (until_no_word c.in-None.ensures)

pub returns-in_ok-past-in-None : goal.returns-in_ok-past-in-None
returns-in_ok-past-in-None c = (omega arith, c.requires, until_none, c.in_ok-past-in-None.ensures)
