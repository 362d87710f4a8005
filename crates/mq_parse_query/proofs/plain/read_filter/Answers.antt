use Rattle.std.proofs.Common.{arith}
use Rattle.mq_ast.specs.declared.levels.TheConstants as level
use Rattle.mq_ast.specs.Prelude.{Stops, WhereE, where_none, where_some}
use Rattle.mq_parse_words.specs.Reading.{from}
use Rattle.mq_parse_words.specs.StepLemmas.{quit, here, there}
use Rattle.mq_parse_query.proofs.SourceLemmas.{where_no_where, where_no_expr, where_no_end}
use Rattle.mq_parse_query.proofs.plain.read_filter.Goals as goal

pub returns-in_err-settled : goal.returns-in_err-settled
returns-in_err-settled c =
    quit WhereE c.args.t.now c.args.at c.from_residual.result c.in_err-settled.field-0.0 c.from_residual.ensures.1 c.in_err-settled.ensures (where_no_where c.in_default.ensures)

pub returns-in_default : goal.returns-in_default
returns-in_default c = (omega arith, c.requires, where_none, c.in_ok-settled.ensures)

pub returns-in_err-e : goal.returns-in_err-e
returns-in_err-e c =
    quit WhereE c.args.t.now c.args.at c.from_residual-in_err-e.result c.in_err-e.field-0.0 c.from_residual-in_err-e.ensures.1 c.in_err-e.ensures (λ h. here WhereE (Stops level.FILTERED) c.in-Some.ensures.2 (where_no_expr h))

pub returns-in_err-settled-2 : goal.returns-in_err-settled-2
returns-in_err-settled-2 c =
    quit WhereE c.args.t.now c.args.at c.from_residual-in_err-settled-2.result c.in_err-settled-2.field-0.0 c.from_residual-in_err-settled-2.ensures.1 c.in_err-settled-2.ensures (λ h. here WhereE (Stops level.FILTERED) c.in-Some.ensures.2 (where_no_end (from c.args.t.now c.in_ok-e.to) c.in_ok-e.ensures.2 c.in_ok-e.ensures.3 h))

pub returns : goal.returns
returns c =
    let s = c.in-Some.ensures in
    let e = c.in_ok-e.ensures in
    (omega (arith, s.0, e.0), e.1, there WhereE s.2 (where_some e.2), c.in_ok-settled-2.ensures)
