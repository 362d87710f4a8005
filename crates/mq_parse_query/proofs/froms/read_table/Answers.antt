use Rattle.std.proofs.Common.{arith}
use Rattle.mq_parse_query.specs.Pieces.{TableE}
use Rattle.mq_parse_words.specs.StepLemmas.{quit}
use Rattle.mq_parse_query.proofs.PlainLemmas.{item_no_name, item_no_alias, item_named, table_no_item}
use Rattle.mq_parse_query.proofs.froms.read_table.Goals as goal

pub returns-in_err-table : goal.returns-in_err-table
returns-in_err-table c =
    quit TableE c.args.t.now c.args.at c.from_residual.result c.in_err-table.field-0.0 c.from_residual.ensures.1 c.in_err-table.ensures (λ h. table_no_item (item_no_name h))

pub returns-in_err-alias : goal.returns-in_err-alias
returns-in_err-alias c =
    quit TableE c.args.t.now c.args.at c.from_residual-in_err-alias.result c.in_err-alias.field-0.0 c.from_residual-in_err-alias.ensures.1 c.in_err-alias.ensures (λ h. table_no_item (item_no_alias c.in_ok-table.ensures.2 h))

pub returns : goal.returns
returns c =
    let n = c.in_ok-table.ensures in
    let o = c.in_ok-alias.ensures in
    (omega (arith, n.0, o.0), o.1, item_named n.2 o.2, o.3)
