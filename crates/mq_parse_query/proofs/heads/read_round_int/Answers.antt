use Rattle.std.proofs.Common.{◌∷◌, ap, ◌∙◌, arith}
use Rattle.mq_ast.specs.Prelude.{Num, RoundInt, opener, round_int}
use Rattle.mq_parse_words.specs.Reading.{Anywhere}
use Rattle.mq_parse_words.specs.StepLemmas.{quit, here, there}
use Rattle.mq_parse_words.specs.NameLemmas.{numbered}
use Rattle.mq_parse_query.proofs.HeadLemmas.{int_no_open, int_no_int, int_no_close}
use Rattle.mq_parse_query.proofs.heads.read_round_int.Goals as goal

pub returns-in_err-open : goal.returns-in_err-open
returns-in_err-open c =
    quit RoundInt c.args.t.now c.args.at c.from_residual.result c.in_err-open.field-0.0 c.from_residual.ensures.1 c.in_err-open.ensures (int_no_open)

pub returns-in_err-number : goal.returns-in_err-number
returns-in_err-number c =
    quit RoundInt c.args.t.now c.args.at c.from_residual-in_err-number.result c.in_err-number.field-0.0 c.from_residual-in_err-number.ensures.1 c.in_err-number.ensures (λ h. here RoundInt Anywhere c.in_ok-open.ensures.2 (int_no_int h))

pub returns-in_err-to : goal.returns-in_err-to
returns-in_err-to c =
    quit RoundInt c.args.t.now c.args.at c.from_residual-in_err-to.result c.in_err-to.field-0.0 c.from_residual-in_err-to.ensures.1 c.in_err-to.ensures (λ h. here RoundInt Anywhere (c.in_ok-open.ensures.2 ∙ ap (λ r. opener ∷ r) (numbered c.in_ok-number.ensures.2).0) (int_no_close h))

pub returns : goal.returns
returns c =
    let o = c.in_ok-open.ensures in
    let k = c.in_ok-number.ensures in
    let e = c.in_ok-to.ensures in
    (omega (arith, o.0, k.0, e.0), e.1, there RoundInt (o.2 ∙ ap (λ r. opener ∷ r) ((numbered k.2).0 ∙ ap (λ r. Num c.in_ok-number.number ∷ r) e.2)) (round_int (numbered k.2).1), tt)
