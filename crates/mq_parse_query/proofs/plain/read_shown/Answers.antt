use Rattle.std.proofs.Common.{◌∷◌, ap, ◌∙◌, arith}
use Rattle.mq_ast.specs.Prelude.{SelE, ShownE, SomeOf, shown_list, shown_star, star}
use Rattle.mq_parse_words.specs.Reading.{Anywhere}
use Rattle.mq_parse_words.specs.StepLemmas.{quit, here, there, till, as_value}
use Rattle.mq_parse_query.proofs.SourceLemmas.{shown_no_star, shown_no_from}
use Rattle.mq_parse_query.proofs.plain.read_shown.Goals as goal

pub returns-in_err-to : goal.returns-in_err-to
returns-in_err-to c =
    quit ShownE c.args.t.now c.args.at c.from_residual.result c.in_err-to.field-0.0 c.from_residual.ensures.1 c.in_err-to.ensures (λ h. here ShownE Anywhere c.in-Some.ensures.2 (shown_no_star h))

pub returns-in-Some : goal.returns-in-Some
returns-in-Some c =
    let s = c.in-Some.ensures in
    let e = c.in_ok-to.ensures in
    (omega (arith, s.0, e.0), e.1, as_value ShownE c.all_columns.ensures (there ShownE (s.2 ∙ ap (λ r. star ∷ r) e.2) shown_star), tt)

pub returns-in_err-to-2 : goal.returns-in_err-to-2
returns-in_err-to-2 c =
    quit ShownE c.args.t.now c.args.at c.from_residual-in_err-to-2.result c.in_err-to-2.field-0.0 c.from_residual-in_err-to-2.ensures.1 c.in_err-to-2.ensures (shown_no_from c.in_default.ensures c.in_ok-sels.ensures.2 c.in_ok-sels.ensures.3)

pub returns : goal.returns
returns c =
    let l = c.in_ok-sels.ensures in
    let e = c.in_ok-to-2.ensures in
    (omega (arith, l.0, e.0), e.1, as_value ShownE c.these.ensures (shown_list (till (SomeOf SelE) e.2 l.2)), tt)
