use Rattle.std.proofs.Common.{arith}
use Rattle.mq_ast.specs.Prelude.{DownE, down_no, down_yes}
use Rattle.mq_parse_words.specs.StepLemmas.{quit, there}
use Rattle.mq_parse_query.proofs.RuleLemmas.{down_no_word}
use Rattle.mq_parse_query.proofs.left.read_down.Goals as goal

pub returns-in-Some : goal.returns-in-Some
returns-in-Some c = let s = c.in-Some.ensures in (omega (arith, s.0), s.1, there DownE s.2 down_no, tt)

pub returns-in_err-to-in-None : goal.returns-in_err-to-in-None
returns-in_err-to-in-None c =
    quit DownE c.args.t.now c.args.at c.from_residual.result c.in_err-to-in-None.field-0.0 c.from_residual.ensures.1 c.in_err-to-in-None.ensures (down_no_word c.in-None.ensures)

pub returns-in_ok-to-in-None : goal.returns-in_ok-to-in-None
returns-in_ok-to-in-None c = let s = c.in_ok-to-in-None.ensures in (omega (arith, s.0), s.1, there DownE s.2 down_yes, tt)
