use Rattle.std.proofs.Common.{◌∷◌, ap, ◌∙◌, arith}
use Rattle.mq_lexer.specs.declared.keywords.Keyword.TheVariants as word
use Rattle.mq_ast.specs.Prelude.{Name, RefSourceE, Word, ref_source}
use Rattle.mq_parse_words.specs.Reading.{Anywhere}
use Rattle.mq_parse_words.specs.StepLemmas.{quit, here, there}
use Rattle.mq_parse_words.specs.NameLemmas.{named}
use Rattle.mq_parse_query.proofs.ModelLemmas.{source_no_name, source_no_on, source_no_open, source_no_plain}
use Rattle.mq_parse_query.proofs.heads.read_source.Goals as goal

pub returns-in_err-name : goal.returns-in_err-name
returns-in_err-name c =
    quit RefSourceE c.args.t.now c.args.at c.from_residual.result c.in_err-name.field-0.0 c.from_residual.ensures.1 c.in_err-name.ensures (source_no_name)

pub returns-in_err-on : goal.returns-in_err-on
returns-in_err-on c =
    quit RefSourceE c.args.t.now c.args.at c.from_residual-in_err-on.result c.in_err-on.field-0.0 c.from_residual-in_err-on.ensures.1 c.in_err-on.ensures (λ h. here RefSourceE Anywhere (named c.in_ok-name.ensures.2) (source_no_on h))

pub returns-in_err-open : goal.returns-in_err-open
returns-in_err-open c =
    quit RefSourceE c.args.t.now c.args.at c.from_residual-in_err-open.result c.in_err-open.field-0.0 c.from_residual-in_err-open.ensures.1 c.in_err-open.ensures (λ h. here RefSourceE Anywhere (named c.in_ok-name.ensures.2 ∙ ap (λ r. Name c.in_ok-name.name ∷ r) c.in_ok-on.ensures.2) (source_no_open h))

pub returns-in_err-plain : goal.returns-in_err-plain
returns-in_err-plain c =
    quit RefSourceE c.args.t.now c.args.at c.from_residual-in_err-plain.result c.in_err-plain.field-0.0 c.from_residual-in_err-plain.ensures.1 c.in_err-plain.ensures (λ h. here RefSourceE Anywhere (named c.in_ok-name.ensures.2 ∙ ap (λ r. Name c.in_ok-name.name ∷ r) (c.in_ok-on.ensures.2 ∙ ap (λ r. Word word.On ∷ r) c.in_ok-open.ensures.2)) (source_no_plain h))

pub returns : goal.returns
returns c =
    let n = c.in_ok-name.ensures in
    let o = c.in_ok-on.ensures in
    let b = c.in_ok-open.ensures in
    let p = c.in_ok-plain.ensures in
    (omega (arith, n.0, o.0, b.0, p.0), p.1, there RefSourceE (named n.2 ∙ ap (λ r. Name c.in_ok-name.name ∷ r) (o.2 ∙ ap (λ r. Word word.On ∷ r) b.2)) (ref_source p.2), tt)
