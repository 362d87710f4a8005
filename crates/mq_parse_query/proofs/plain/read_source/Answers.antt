use Rattle.std.proofs.Common.{arith}
use Rattle.mq_ast.specs.Prelude.{SourceE, source}
use Rattle.mq_parse_words.specs.StepLemmas.{quit, as_value}
use Rattle.mq_parse_query.proofs.SourceLemmas.{source_no_from, source_no_where, source_no_group}
use Rattle.mq_parse_query.proofs.plain.read_source.Goals as goal

pub returns-in_err-froms : goal.returns-in_err-froms
returns-in_err-froms c =
    quit SourceE c.args.t.now c.args.at c.from_residual.result c.in_err-froms.field-0.0 c.from_residual.ensures.1 c.in_err-froms.ensures (source_no_from)

pub returns-in_err-filter : goal.returns-in_err-filter
returns-in_err-filter c =
    quit SourceE c.args.t.now c.args.at c.from_residual-in_err-filter.result c.in_err-filter.field-0.0 c.from_residual-in_err-filter.ensures.1 c.in_err-filter.ensures (source_no_where c.in_ok-froms.ensures.2 c.in_ok-froms.ensures.3)

pub returns-in_err-group : goal.returns-in_err-group
returns-in_err-group c =
    quit SourceE c.args.t.now c.args.at c.from_residual-in_err-group.result c.in_err-group.field-0.0 c.from_residual-in_err-group.ensures.1 c.in_err-group.ensures (source_no_group c.in_ok-froms.ensures.2 c.in_ok-froms.ensures.3 c.in_ok-filter.ensures.2 c.in_ok-filter.ensures.3)

pub returns : goal.returns
returns c =
    let f = c.in_ok-froms.ensures in
    let w = c.in_ok-filter.ensures in
    let g = c.in_ok-group.ensures in
    (omega (arith, f.0, w.0, g.0), g.1, as_value SourceE c.in_ok-source_with.ensures (source f.2 w.2 g.2), g.3)
