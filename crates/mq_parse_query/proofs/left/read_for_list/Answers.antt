use Rattle.std.proofs.Common.{arith}
use Rattle.mq_ast.specs.Prelude.{ForListE, for_rows, for_values}
use Rattle.mq_parse_words.specs.Reading.{Anywhere}
use Rattle.mq_parse_words.specs.StepLemmas.{quit, as_value, here, there}
use Rattle.mq_parse_query.proofs.RuleLemmas.{for_no_open, for_no_rows, for_no_list}
use Rattle.mq_parse_query.proofs.left.read_for_list.Goals as goal

pub returns-in_err-open : goal.returns-in_err-open
returns-in_err-open g c =
    let R = g.P.Listed.reads in
    quit (ForListE R) c.args.t.now c.args.at c.from_residual.result c.in_err-open.field-0.0 c.from_residual.ensures.1 c.in_err-open.ensures (for_no_open R)

pub returns-in_err-plain-in-Some : goal.returns-in_err-plain-in-Some
returns-in_err-plain-in-Some g c =
    let R = g.P.Listed.reads in
    quit (ForListE R) c.args.t.now c.args.at c.from_residual-in_err-plain-in-Some.result c.in_err-plain-in-Some.field-0.0 c.from_residual-in_err-plain-in-Some.ensures.1 c.in_err-plain-in-Some.ensures (λ h. here (ForListE R) Anywhere c.in_ok-open.ensures.2 (for_no_rows R c.requires.no_query c.in-Some.ensures.2 h))

pub returns-in_ok-rows_of-in-Some : goal.returns-in_ok-rows_of-in-Some
returns-in_ok-rows_of-in-Some g c =
    let R = g.P.Listed.reads in
    let o = c.in_ok-open.ensures in
    let f = c.in_ok-plain-in-Some.ensures in
    (omega (arith, o.0, f.0), f.1, as_value (ForListE R) c.in_ok-rows_of-in-Some.ensures (there (ForListE R) o.2 (for_rows f.2)), tt)

pub read_closed-requires : goal.read_closed-requires
read_closed-requires g c = c.requires.closes

pub returns-in_err-list-in-None : goal.returns-in_err-list-in-None
returns-in_err-list-in-None g c =
    let R = g.P.Listed.reads in
    quit (ForListE R) c.args.t.now c.args.at c.from_residual-in_err-list-in-None.result c.in_err-list-in-None.field-0.0 c.from_residual-in_err-list-in-None.ensures.1 c.in_err-list-in-None.ensures (λ h. here (ForListE R) Anywhere c.in_ok-open.ensures.2 (for_no_list R c.in-None.ensures h))

pub returns-in_ok-values_of-in-None : goal.returns-in_ok-values_of-in-None
returns-in_ok-values_of-in-None g c =
    let R = g.P.Listed.reads in
    let o = c.in_ok-open.ensures in
    let f = c.in_ok-list-in-None.ensures in
    (omega (arith, o.0, f.0), f.1, as_value (ForListE R) c.in_ok-values_of-in-None.ensures (there (ForListE R) o.2 (for_values f.2)), tt)
