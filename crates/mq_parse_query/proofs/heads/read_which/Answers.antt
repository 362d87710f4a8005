use Rattle.std.proofs.Common.{arith}
use Rattle.mq_ast.specs.Prelude.{WhichE, which_all, which_updated}
use Rattle.mq_parse_words.specs.StepLemmas.{quit, there}
use Rattle.mq_parse_query.proofs.ModelLemmas.{which_no_word}
use Rattle.mq_parse_query.proofs.heads.read_which.Goals as goal

pub returns-in-Some : goal.returns-in-Some
returns-in-Some c = let s = c.in-Some.ensures in (omega (arith, s.0), s.1, there WhichE s.2 which_all, tt)

pub returns-in_err-to-in-None : goal.returns-in_err-to-in-None
returns-in_err-to-in-None c =
    quit WhichE c.args.t.now c.args.at c.from_residual.result c.in_err-to-in-None.field-0.0 c.from_residual.ensures.1 c.in_err-to-in-None.ensures (which_no_word c.in-None.ensures)

pub returns-in_ok-to-in-None : goal.returns-in_ok-to-in-None
returns-in_ok-to-in-None c = let s = c.in_ok-to-in-None.ensures in (omega (arith, s.0), s.1, there WhichE s.2 which_updated, tt)
