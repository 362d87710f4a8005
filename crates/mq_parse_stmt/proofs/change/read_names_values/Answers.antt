use Rattle.std.proofs.Common.{arith}
use Rattle.mq_ast.specs.Prelude.{NamesE, names_none, names_some}
use Rattle.mq_parse_words.specs.StepLemmas.{quit, there, till}
use Rattle.mq_parse_stmt.specs.Pieces.{NamesValues}
use Rattle.mq_parse_stmt.proofs.PieceLemmas.{values_no_names, values_no_values}
use Rattle.mq_parse_stmt.proofs.change.read_names_values.Goals as goal

pub returns-in-Some : goal.returns-in-Some
returns-in-Some c =
    let s = c.in-Some.ensures in (omega (arith, s.0), s.1, there NamesValues s.2 names_none, tt)

pub returns-in_err-names-in-None : goal.returns-in_err-names-in-None
returns-in_err-names-in-None c =
    quit NamesValues c.args.t.now c.args.at c.from_residual.result c.in_err-names-in-None.field-0.0 c.from_residual.ensures.1 c.in_err-names-in-None.ensures (λ h. values_no_names c.in-None.ensures h)

pub returns-in_err-to-in-None : goal.returns-in_err-to-in-None
returns-in_err-to-in-None c =
    quit NamesValues c.args.t.now c.args.at c.from_residual-in_err-to-in-None.result c.in_err-to-in-None.field-0.0 c.from_residual-in_err-to-in-None.ensures.1 c.in_err-to-in-None.ensures (λ h. values_no_values c.in_ok-names-in-None.ensures.2 h)

pub returns-in_ok-to-in-None : goal.returns-in_ok-to-in-None
returns-in_ok-to-in-None c =
    let n = c.in_ok-names-in-None.ensures in
    let e = c.in_ok-to-in-None.ensures in
    (omega (arith, n.0, e.0), e.1, names_some (till NamesE e.2 n.2), tt)
