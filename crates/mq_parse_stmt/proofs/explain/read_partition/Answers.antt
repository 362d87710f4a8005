use Rattle.std.proofs.Common.{arith}
use Rattle.mq_ast.specs.Prelude.{Tuple, part_some}
use Rattle.mq_parse_words.specs.Reading.{Anywhere}
use Rattle.mq_parse_words.specs.StepLemmas.{quit, here, there, till}
use Rattle.mq_parse_stmt.specs.Pieces.{PartOpen}
use Rattle.mq_parse_stmt.proofs.PieceLemmas.{part_no_word, part_no_tuple, part_no_open}
use Rattle.mq_parse_stmt.proofs.explain.read_partition.Goals as goal

pub returns-in_err-tuple : goal.returns-in_err-tuple
returns-in_err-tuple c =
    quit PartOpen c.args.t.now c.args.at c.from_residual.result c.in_err-tuple.field-0.0 c.from_residual.ensures.1 c.in_err-tuple.ensures (part_no_word c.requires)

pub returns-in_err-values : goal.returns-in_err-values
returns-in_err-values c =
    quit PartOpen c.args.t.now c.args.at c.from_residual-in_err-values.result c.in_err-values.field-0.0 c.from_residual-in_err-values.ensures.1 c.in_err-values.ensures (λ h. here PartOpen Anywhere c.in_ok-tuple.ensures.2 (part_no_tuple h))

pub returns-in_err-to : goal.returns-in_err-to
returns-in_err-to c =
    quit PartOpen c.args.t.now c.args.at c.from_residual-in_err-to.result c.in_err-to.field-0.0 c.from_residual-in_err-to.ensures.1 c.in_err-to.ensures (λ h. here PartOpen Anywhere c.in_ok-tuple.ensures.2 (part_no_open c.in_ok-values.ensures.2 h))

pub returns : goal.returns
returns c =
    let p = c.in_ok-tuple.ensures in
    let v = c.in_ok-values.ensures in
    let e = c.in_ok-to.ensures in
    (omega (arith, p.0, v.0, e.0), e.1, there PartOpen p.2 (part_some (till Tuple e.2 v.2)), tt)
