use Rattle.std.specs.Prelude.{None}
use Rattle.mq_ast.specs.Prelude.{ItemE}
use Rattle.mq_parse_words.specs.StepLemmas.{quit, as_value}
use Rattle.mq_parse_query.proofs.PlainLemmas.{item_no_table}
use Rattle.mq_parse_query.proofs.froms.read_item.Goals as goal

pub returns-in_err-named : goal.returns-in_err-named
returns-in_err-named c =
    quit (ItemE None) c.args.t.now c.args.at c.from_residual.result c.in_err-named.field-0.0 c.from_residual.ensures.1 c.in_err-named.ensures item_no_table

pub returns : goal.returns
returns c = let n = c.in_ok-named.ensures in (n.0, n.1, as_value (ItemE None) c.in_ok-bare_item.ensures n.2, n.3)
