use Rattle.std.proofs.Common.{◌∷◌, ap, ◌∙◌, arith}
use Rattle.mq_values.specs.declared.value.Kind.TheVariants as kind
use Rattle.mq_lexer.specs.declared.keywords.Keyword.TheVariants as word
use Rattle.mq_ast.specs.Tokens.{Word, Num, opener}
use Rattle.mq_ast.specs.GrammarNames.{KindE, kind_decimal}
use Rattle.mq_parse_words.specs.Reading.{Anywhere}
use Rattle.mq_parse_words.specs.StepLemmas.{quit, here, there, as_value}
use Rattle.mq_parse_words.specs.NameLemmas.{kind_no_word, kind_no_open, kind_no_int, kind_no_close, numbered}
use Rattle.mq_parse_words.proofs.names.read_decimal.Goals as goal

pub returns-in_err-decimal : goal.returns-in_err-decimal
returns-in_err-decimal c =
    quit KindE c.args.t.now c.args.at c.from_residual.result c.in_err-decimal.field-0.0 c.from_residual.ensures.1 c.in_err-decimal.ensures (λ h. kind_no_word c.requires.int c.requires.text c.requires.date h)

pub returns-in_err-open : goal.returns-in_err-open
returns-in_err-open c =
    quit KindE c.args.t.now c.args.at c.from_residual-in_err-open.result c.in_err-open.field-0.0 c.from_residual-in_err-open.ensures.1 c.in_err-open.ensures (λ h. here KindE Anywhere c.in_ok-decimal.ensures.2 (kind_no_open h))

pub returns-in_err-scale : goal.returns-in_err-scale
returns-in_err-scale c =
    quit KindE c.args.t.now c.args.at c.from_residual-in_err-scale.result c.in_err-scale.field-0.0 c.from_residual-in_err-scale.ensures.1 c.in_err-scale.ensures (λ h. here KindE Anywhere (c.in_ok-decimal.ensures.2 ∙ ap (λ r. Word word.Decimal ∷ r) c.in_ok-open.ensures.2) (kind_no_int h))

pub returns-in_err-to : goal.returns-in_err-to
returns-in_err-to c =
    quit KindE c.args.t.now c.args.at c.from_residual-in_err-to.result c.in_err-to.field-0.0 c.from_residual-in_err-to.ensures.1 c.in_err-to.ensures (λ h. here KindE Anywhere (c.in_ok-decimal.ensures.2 ∙ ap (λ r. Word word.Decimal ∷ r) (c.in_ok-open.ensures.2 ∙ ap (λ r. opener ∷ r) (numbered c.in_ok-scale.ensures.2).0)) (kind_no_close h))

pub returns : goal.returns
returns c =
    let d = c.in_ok-decimal.ensures in
    let o = c.in_ok-open.ensures in
    let s = c.in_ok-scale.ensures in
    let e = c.in_ok-to.ensures in
    (omega (arith, d.0, o.0, s.0, e.0), e.1, as_value KindE (ap kind.Decimal c.scale_of.ensures) (there KindE (d.2 ∙ ap (λ r. Word word.Decimal ∷ r) (o.2 ∙ ap (λ r. opener ∷ r) ((numbered s.2).0 ∙ ap (λ r. Num c.in_ok-scale.scale ∷ r) e.2))) (kind_decimal (numbered s.2).1)), tt)
