use Rattle.std.proofs.Common.{◌∷◌, ap, ◌∙◌, arith}
use Rattle.mq_ast.specs.declared.levels.TheConstants as level
use Rattle.mq_ast.specs.Prelude.{Name, Stops, lit_in, lit_range}
use Rattle.mq_parse_query.specs.Pieces.{ForPlace}
use Rattle.mq_parse_words.specs.Reading.{from}
use Rattle.mq_parse_words.specs.StepLemmas.{quit, here, there, as_value}
use Rattle.mq_parse_words.specs.NameLemmas.{named}
use Rattle.mq_ast.specs.Laws.{alones_no_plain}
use Rattle.mq_parse_query.proofs.RuleLemmas.{ends_closed, for_no_name, for_no_values, for_no_end, for_no_range}
use Rattle.mq_parse_query.proofs.left.read_for.Goals as goal

pub returns-in_err-dim : goal.returns-in_err-dim
returns-in_err-dim c =
    quit ForPlace c.args.t.now c.args.at c.from_residual.result c.in_err-dim.field-0.0 c.from_residual.ensures.1 c.in_err-dim.ensures (for_no_name)

pub read_for_list-requires-clause-closes : goal.read_for_list-requires-clause-closes
read_for_list-requires-clause-closes c = ends_closed

pub read_for_list-requires-clause-no_query : goal.read_for_list-requires-clause-no_query
read_for_list-requires-clause-no_query c = λ xs us vs d. alones_no_plain d

pub returns-in_err-list-in-Some : goal.returns-in_err-list-in-Some
returns-in_err-list-in-Some c =
    quit ForPlace c.args.t.now c.args.at c.from_residual-in_err-list-in-Some.result c.in_err-list-in-Some.field-0.0 c.from_residual-in_err-list-in-Some.ensures.1 c.in_err-list-in-Some.ensures (λ h. here ForPlace (Stops level.EXPRESSION) (named c.in_ok-dim.ensures.2 ∙ ap (λ r. Name c.in_ok-dim.dim ∷ r) c.in-Some.ensures.2) (for_no_values h))

pub returns-in_err-settled-in-Some : goal.returns-in_err-settled-in-Some
returns-in_err-settled-in-Some c =
    quit ForPlace c.args.t.now c.args.at c.from_residual-in_err-settled-in-Some.result c.in_err-settled-in-Some.field-0.0 c.from_residual-in_err-settled-in-Some.ensures.1 c.in_err-settled-in-Some.ensures (λ h. here ForPlace (Stops level.EXPRESSION) (named c.in_ok-dim.ensures.2 ∙ ap (λ r. Name c.in_ok-dim.dim ∷ r) c.in-Some.ensures.2) (for_no_end (from c.args.t.now c.in_ok-list-in-Some.to) c.in_ok-list-in-Some.ensures.2 h))

pub returns-in_ok-for_in-in-Some : goal.returns-in_ok-for_in-in-Some
returns-in_ok-for_in-in-Some c =
    let n = c.in_ok-dim.ensures in
    let s = c.in-Some.ensures in
    let f = c.in_ok-list-in-Some.ensures in
    (omega (arith, n.0, s.0, f.0), f.1, as_value ForPlace c.in_ok-for_in-in-Some.ensures (there ForPlace (named n.2 ∙ ap (λ r. Name c.in_ok-dim.dim ∷ r) s.2) (lit_in f.2)), c.in_ok-settled-in-Some.ensures)

pub returns-in_err-range-in-None : goal.returns-in_err-range-in-None
returns-in_err-range-in-None c =
    quit ForPlace c.args.t.now c.args.at c.from_residual-in_err-range-in-None.result c.in_err-range-in-None.field-0.0 c.from_residual-in_err-range-in-None.ensures.1 c.in_err-range-in-None.ensures (λ h. here ForPlace (Stops level.EXPRESSION) (named c.in_ok-dim.ensures.2) (for_no_range c.in-None.ensures h))

pub returns-in_ok-for_range-in-None : goal.returns-in_ok-for_range-in-None
returns-in_ok-for_range-in-None c =
    let n = c.in_ok-dim.ensures in
    let f = c.in_ok-range-in-None.ensures in
    (omega (arith, n.0, f.0), f.1, as_value ForPlace c.in_ok-for_range-in-None.ensures (there ForPlace (named n.2) (lit_range f.2)), f.3)
