use Rattle.std.proofs.Common.{arith}
use Rattle.mq_ast.specs.declared.levels.TheConstants as level
use Rattle.mq_ast.specs.Prelude.{JoinE, Stops, join_bare, join_on}
use Rattle.mq_parse_query.proofs.PlainLemmas.{joins_no_bare, joins_no_on, joins_no_front}
use Rattle.mq_parse_query.proofs.ListLemmas.{quit_turn}
use Rattle.mq_parse_query.proofs.froms.JoinsRepeated.next.Goals as goal

pub returns-in_err-read_item : goal.returns-in_err-read_item
returns-in_err-read_item c =
    quit_turn JoinE (Stops level.ITEM) c.args.t.now c.args.at c.from_residual.result c.in_err-read_item.field-0.0 c.from_residual.ensures.1 c.in_err-read_item.ensures (joins_no_bare c.in-Some.ensures.2)

pub returns-in-Some : goal.returns-in-Some
returns-in-Some c =
    let f = c.in-Some.ensures in
    let i = c.in_ok-read_item.ensures in
    (omega (arith, f.0, i.0), i.1, join_bare f.2 i.2, i.3)

pub returns-in_err-read_on_item : goal.returns-in_err-read_on_item
returns-in_err-read_on_item c =
    quit_turn JoinE (Stops level.ITEM) c.args.t.now c.args.at c.from_residual-in_err-read_on_item.result c.in_err-read_on_item.field-0.0 c.from_residual-in_err-read_on_item.ensures.1 c.in_err-read_on_item.ensures (joins_no_on c.in-Some-on_front.ensures.2)

pub returns-in-Some-on_front : goal.returns-in-Some-on_front
returns-in-Some-on_front c =
    let f = c.in-Some-on_front.ensures in
    let i = c.in_ok-read_on_item.ensures in
    (omega (arith, f.0, i.0), i.1, join_on f.2 i.2, i.3)

pub returns-in_err-settled : goal.returns-in_err-settled
returns-in_err-settled c =
    quit_turn JoinE (Stops level.ITEM) c.args.t.now c.args.at c.from_residual-in_err-settled.result c.in_err-settled.field-0.0 c.from_residual-in_err-settled.ensures.1 c.in_err-settled.ensures (joins_no_front c.in_default.ensures c.in_default-on_front.ensures)
