use Rattle.std.proofs.Common.{arith}
use Rattle.mq_parse_words.specs.Reading.{from}
use Rattle.mq_parse_words.specs.StepLemmas.{quit}
use Rattle.mq_parse_query.specs.Pieces.{Returns}
use Rattle.mq_parse_query.proofs.ModelLemmas.{rows_no_which, rows_no_rows, rows_no_end, rows_whole}
use Rattle.mq_parse_query.proofs.heads.read_rows.Goals as goal

pub returns-in_err-updated : goal.returns-in_err-updated
returns-in_err-updated c =
    quit Returns c.args.t.now c.args.at c.from_residual.result c.in_err-updated.field-0.0 c.from_residual.ensures.1 c.in_err-updated.ensures (rows_no_which)

pub returns-in_err-to : goal.returns-in_err-to
returns-in_err-to c =
    quit Returns c.args.t.now c.args.at c.from_residual-in_err-to.result c.in_err-to.field-0.0 c.from_residual-in_err-to.ensures.1 c.in_err-to.ensures (rows_no_rows c.in_ok-updated.ensures.2)

pub returns-in_err-past : goal.returns-in_err-past
returns-in_err-past c =
    quit Returns c.args.t.now c.args.at c.from_residual-in_err-past.result c.in_err-past.field-0.0 c.from_residual-in_err-past.ensures.1 c.in_err-past.ensures (rows_no_end (from c.args.t.now c.in_ok-to.to) c.in_ok-updated.ensures.2 c.in_ok-to.ensures.2)

pub returns : goal.returns
returns c =
    let u = c.in_ok-updated.ensures in
    let e = c.in_ok-to.ensures in
    (omega (arith, u.0, e.0), e.1, rows_whole u.2 e.2, c.in_ok-past.ensures)
