use Rattle.std.proofs.Common.{◌∷◌, ap, ◌∙◌, arith}
use Rattle.mq_ast.specs.Prelude.{RuleE, RuleList, closer, opener, rules_none, rules_some}
use Rattle.mq_parse_query.specs.Pieces.{Closed}
use Rattle.mq_parse_words.specs.Reading.{Anywhere}
use Rattle.mq_parse_words.specs.StepLemmas.{quit, here, there, as_value, gives_as}
use Rattle.mq_parse_query.proofs.RuleLemmas.{rules_no_open, rules_no_list, ends_closed}
use Rattle.mq_parse_query.proofs.rules.read_rules.Goals as goal

pub returns-in_err-open : goal.returns-in_err-open
returns-in_err-open c =
    quit RuleList c.args.t.now c.args.at c.from_residual.result c.in_err-open.field-0.0 c.from_residual.ensures.1 c.in_err-open.ensures (rules_no_open)

pub returns-in-Some : goal.returns-in-Some
returns-in-Some c =
    let o = c.in_ok-open.ensures in
    let s = c.in-Some.ensures in
    (omega (arith, o.0, s.0), s.1, as_value RuleList c.new.ensures (there RuleList (o.2 ∙ ap (λ r. opener ∷ r) s.2) rules_none), tt)

pub read_closed-requires : goal.read_closed-requires
read_closed-requires c = ends_closed

pub returns-in-None : goal.returns-in-None
returns-in-None c =
    let o = c.in_ok-open.ensures in
    gives_as RuleList (Closed closer RuleE) Anywhere Anywhere c.args.t.now c.args.at c.in_ok-open.open c.read_closed.result (omega (arith, o.0)) (λ a to d s. (there RuleList o.2 (rules_some d), tt)) (λ h. here RuleList Anywhere o.2 (rules_no_list c.in-None.ensures h)) c.read_closed.ensures
