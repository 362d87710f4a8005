use Rattle.mq_parse_words.specs.StepLemmas.{quit}
use Rattle.mq_parse_query.specs.Pieces.{SomeName}
use Rattle.mq_parse_query.proofs.PlainLemmas.{some_no_name, some_no_end, some_named}
use Rattle.mq_parse_query.proofs.columns.read_alias_name.Goals as goal

pub returns-in_err-name : goal.returns-in_err-name
returns-in_err-name c =
    quit SomeName c.args.t.now c.args.at c.from_residual.result c.in_err-name.field-0.0 c.from_residual.ensures.1 c.in_err-name.ensures (some_no_name)

pub returns-in_err-settled : goal.returns-in_err-settled
returns-in_err-settled c =
    quit SomeName c.args.t.now c.args.at c.from_residual-in_err-settled.result c.in_err-settled.field-0.0 c.from_residual-in_err-settled.ensures.1 c.in_err-settled.ensures (some_no_end c.in_ok-name.ensures.2)

pub returns : goal.returns
returns c = let n = c.in_ok-name.ensures in (n.0, n.1, some_named n.2, c.in_ok-settled.ensures)
