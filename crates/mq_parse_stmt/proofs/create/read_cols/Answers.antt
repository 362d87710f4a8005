use Rattle.std.proofs.Common.{arith}
use Rattle.mq_ast.specs.Prelude.{ColE, SomeOf, some_of}
use Rattle.mq_parse_words.specs.StepLemmas.{quit, as_value}
use Rattle.mq_parse_stmt.proofs.PieceLemmas.{cols_no_first, cols_no_others}
use Rattle.mq_parse_stmt.proofs.create.read_cols.Goals as goal

pub returns-in_err-first : goal.returns-in_err-first
returns-in_err-first c =
    quit (SomeOf ColE) c.args.t.now c.args.at c.from_residual.result c.in_err-first.field-0.0 c.from_residual.ensures.1 c.in_err-first.ensures (cols_no_first)

pub returns-in_err-all : goal.returns-in_err-all
returns-in_err-all c =
    quit (SomeOf ColE) c.args.t.now c.args.at c.from_residual-in_err-all.result c.in_err-all.field-0.0 c.from_residual-in_err-all.ensures.1 c.in_err-all.ensures (cols_no_others c.in_ok-first.ensures.2 c.in_ok-first.ensures.3)

pub returns : goal.returns
returns c =
    let f = c.in_ok-first.ensures in
    let o = c.in_ok-all.ensures in
    (omega (arith, f.0, o.0), o.1, as_value (SomeOf ColE) c.in_ok-put_first.ensures.ok (some_of f.2 o.2), o.3)
