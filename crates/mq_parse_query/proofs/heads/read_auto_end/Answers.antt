use Rattle.std.proofs.Common.{arith}
use Rattle.mq_ast.specs.declared.clauses.TheConstants as clause
use Rattle.mq_ast.specs.Prelude.{Past}
use Rattle.mq_parse_query.specs.Pieces.{AutoEnd, auto_end}
use Rattle.mq_parse_words.specs.StepLemmas.{quit, here, there}
use Rattle.mq_parse_query.proofs.HeadLemmas.{auto_no_order, auto_no_end}
use Rattle.mq_parse_query.proofs.heads.read_auto_end.Goals as goal

pub returns-in_err-to : goal.returns-in_err-to
returns-in_err-to c =
    quit (AutoEnd c.args.auto) c.args.t.now c.args.at c.from_residual.result c.in_err-to.field-0.0 c.from_residual.ensures.1 c.in_err-to.ensures (auto_no_order)

pub returns-in_err-past : goal.returns-in_err-past
returns-in_err-past c =
    quit (AutoEnd c.args.auto) c.args.t.now c.args.at c.from_residual-in_err-past.result c.in_err-past.field-0.0 c.from_residual-in_err-past.ensures.1 c.in_err-past.ensures (λ h. here (AutoEnd c.args.auto) (Past clause.ORDER) c.in_ok-to.ensures.2 (auto_no_end h))

pub returns : goal.returns
returns c = let e = c.in_ok-to.ensures in (omega (arith, e.0), e.1, there (AutoEnd c.args.auto) e.2 auto_end, c.in_ok-past.ensures)
