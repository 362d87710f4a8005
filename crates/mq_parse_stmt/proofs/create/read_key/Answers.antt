use Rattle.std.proofs.Common.{◌∷◌, ap, ◌∙◌, arith}
use Rattle.mq_lexer.specs.declared.keywords.Keyword.TheVariants as word
use Rattle.mq_ast.specs.Prelude.{NamesE, Word, primary_some}
use Rattle.mq_parse_words.specs.Reading.{Anywhere}
use Rattle.mq_parse_words.specs.StepLemmas.{quit, here, there, till}
use Rattle.mq_parse_stmt.specs.Pieces.{KeyBehind}
use Rattle.mq_parse_stmt.proofs.PieceLemmas.{key_no_primary, key_no_key, key_no_names, key_no_end}
use Rattle.mq_parse_stmt.proofs.create.read_key.Goals as goal

pub returns-in_err-primary : goal.returns-in_err-primary
returns-in_err-primary c =
    quit KeyBehind c.args.t.now c.args.at c.from_residual.result c.in_err-primary.field-0.0 c.from_residual.ensures.1 c.in_err-primary.ensures (key_no_primary)

pub returns-in_err-key : goal.returns-in_err-key
returns-in_err-key c =
    quit KeyBehind c.args.t.now c.args.at c.from_residual-in_err-key.result c.in_err-key.field-0.0 c.from_residual-in_err-key.ensures.1 c.in_err-key.ensures (λ h. here KeyBehind Anywhere c.in_ok-primary.ensures.2 (key_no_key h))

pub returns-in_err-names : goal.returns-in_err-names
returns-in_err-names c =
    quit KeyBehind c.args.t.now c.args.at c.from_residual-in_err-names.result c.in_err-names.field-0.0 c.from_residual-in_err-names.ensures.1 c.in_err-names.ensures (λ h. here KeyBehind Anywhere (c.in_ok-primary.ensures.2 ∙ ap (λ r. Word word.Primary ∷ r) c.in_ok-key.ensures.2) (key_no_names h))

pub returns-in_err-to : goal.returns-in_err-to
returns-in_err-to c =
    quit KeyBehind c.args.t.now c.args.at c.from_residual-in_err-to.result c.in_err-to.field-0.0 c.from_residual-in_err-to.ensures.1 c.in_err-to.ensures (λ h. here KeyBehind Anywhere (c.in_ok-primary.ensures.2 ∙ ap (λ r. Word word.Primary ∷ r) c.in_ok-key.ensures.2) (key_no_end c.in_ok-names.ensures.2 h))

pub returns : goal.returns
returns c =
    let p = c.in_ok-primary.ensures in
    let k = c.in_ok-key.ensures in
    let n = c.in_ok-names.ensures in
    let e = c.in_ok-to.ensures in
    (omega (arith, p.0, k.0, n.0, e.0), e.1, there KeyBehind (c.in_ok-primary.ensures.2 ∙ ap (λ r. Word word.Primary ∷ r) c.in_ok-key.ensures.2) (primary_some (till NamesE e.2 n.2)), tt)
