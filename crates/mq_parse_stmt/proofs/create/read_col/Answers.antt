use Rattle.std.proofs.Common.{arith}
use Rattle.mq_ast.specs.declared.levels.TheConstants as level
use Rattle.mq_ast.specs.Prelude.{ColE, Stops, col}
use Rattle.mq_parse_words.specs.StepLemmas.{quit, here, there, as_value}
use Rattle.mq_parse_words.specs.NameLemmas.{named}
use Rattle.mq_parse_stmt.proofs.PieceLemmas.{col_no_name, col_no_kind, col_no_null}
use Rattle.mq_parse_stmt.proofs.create.read_col.Goals as goal

pub returns-in_err-name : goal.returns-in_err-name
returns-in_err-name c =
    quit ColE c.args.t.now c.args.at c.from_residual.result c.in_err-name.field-0.0 c.from_residual.ensures.1 c.in_err-name.ensures (col_no_name)

pub returns-in_err-kind : goal.returns-in_err-kind
returns-in_err-kind c =
    quit ColE c.args.t.now c.args.at c.from_residual-in_err-kind.result c.in_err-kind.field-0.0 c.from_residual-in_err-kind.ensures.1 c.in_err-kind.ensures (λ h. here ColE (Stops level.EXPRESSION) (named c.in_ok-name.ensures.2) (col_no_kind h))

pub returns-in_err-not_null : goal.returns-in_err-not_null
returns-in_err-not_null c =
    quit ColE c.args.t.now c.args.at c.from_residual-in_err-not_null.result c.in_err-not_null.field-0.0 c.from_residual-in_err-not_null.ensures.1 c.in_err-not_null.ensures (λ h. here ColE (Stops level.EXPRESSION) (named c.in_ok-name.ensures.2) (col_no_null c.in_ok-kind.ensures.2 h))

pub returns : goal.returns
returns c =
    let n = c.in_ok-name.ensures in
    let k = c.in_ok-kind.ensures in
    let b = c.in_ok-not_null.ensures in
    (omega (arith, n.0, k.0, b.0), b.1, as_value ColE c.column.ensures (there ColE (named n.2) (col k.2 b.2)), b.3)
