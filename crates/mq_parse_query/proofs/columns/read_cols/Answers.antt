use Rattle.std.proofs.Common.{arith}
use Rattle.mq_ast.specs.Prelude.{Cols, SelE, SomeOf, cols}
use Rattle.mq_parse_words.specs.StepLemmas.{quit, here, there, till}
use Rattle.mq_parse_words.specs.Reading.{Anywhere}
use Rattle.mq_parse_query.proofs.PlainLemmas.{cols_no_open, cols_no_list, cols_no_close}
use Rattle.mq_parse_query.proofs.columns.read_cols.Goals as goal

pub returns-in_err-open : goal.returns-in_err-open
returns-in_err-open c =
    quit Cols c.args.t.now c.args.at c.from_residual.result c.in_err-open.field-0.0 c.from_residual.ensures.1 c.in_err-open.ensures (cols_no_open)

pub returns-in_err-cols : goal.returns-in_err-cols
returns-in_err-cols c =
    quit Cols c.args.t.now c.args.at c.from_residual-in_err-cols.result c.in_err-cols.field-0.0 c.from_residual-in_err-cols.ensures.1 c.in_err-cols.ensures (λ h. here Cols Anywhere c.in_ok-open.ensures.2 (cols_no_list h))

pub returns-in_err-to : goal.returns-in_err-to
returns-in_err-to c =
    quit Cols c.args.t.now c.args.at c.from_residual-in_err-to.result c.in_err-to.field-0.0 c.from_residual-in_err-to.ensures.1 c.in_err-to.ensures (λ h. here Cols Anywhere c.in_ok-open.ensures.2 (cols_no_close c.in_ok-cols.ensures.2 c.in_ok-cols.ensures.3 h))

pub returns : goal.returns
returns c =
    let o = c.in_ok-open.ensures in
    let l = c.in_ok-cols.ensures in
    let e = c.in_ok-to.ensures in
    (omega (arith, o.0, l.0, e.0), e.1, there Cols o.2 (cols (till (SomeOf SelE) e.2 l.2)), tt)
