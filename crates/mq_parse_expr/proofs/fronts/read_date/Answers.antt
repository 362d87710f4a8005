use Rattle.mq_lexer.specs.declared.keywords.Keyword.TheVariants as word
use Rattle.mq_ast.specs.Tokens.{Word}
use Rattle.mq_ast.specs.GrammarExpression.{prim_date}
use Rattle.mq_parse_words.specs.StepLemmas.{quit}
use Rattle.mq_parse_words.specs.Fronts.{Behind}
use Rattle.mq_parse_expr.proofs.FrontLemmas.{date_no_day}
use Rattle.mq_parse_expr.proofs.fronts.read_date.Goals as goal

pub returns-in_err-day : goal.returns-in_err-day
returns-in_err-day c =
    quit (Behind (Word word.Date)) c.args.t.now c.args.at c.from_residual.result c.in_err-day.field-0.0 c.from_residual.ensures.1 c.in_err-day.ensures date_no_day

pub returns : goal.returns
returns c =
    let d = c.in_ok-day.ensures in
    (d.0, d.1, prim_date d.2, tt)
