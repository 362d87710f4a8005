use Rattle.std.proofs.Common.{◌∷◌, ap, ◌∙◌, arith}
use Rattle.mq_ast.specs.Prelude.{Word}
use Rattle.mq_parse_words.specs.Reading.{Anywhere}
use Rattle.mq_parse_words.specs.StepLemmas.{quit, here, there}
use Rattle.mq_parse_words.specs.NameLemmas.{named}
use Rattle.mq_parse_stmt.specs.Pieces.{WordName, word_name}
use Rattle.mq_parse_stmt.proofs.PieceLemmas.{word_name_no_word, word_name_no_name}
use Rattle.mq_parse_stmt.proofs.pieces.read_word_name.Goals as goal

pub returns-in_err-behind : goal.returns-in_err-behind
returns-in_err-behind c =
    quit (WordName c.args.word) c.args.t.now c.args.at c.from_residual.result c.in_err-behind.field-0.0 c.from_residual.ensures.1 c.in_err-behind.ensures (word_name_no_word)

pub returns-in_err-name : goal.returns-in_err-name
returns-in_err-name c =
    quit (WordName c.args.word) c.args.t.now c.args.at c.from_residual-in_err-name.result c.in_err-name.field-0.0 c.from_residual-in_err-name.ensures.1 c.in_err-name.ensures (λ h. here (WordName c.args.word) Anywhere c.in_ok-behind.ensures.2 (word_name_no_name h))

pub returns : goal.returns
returns c =
    let b = c.in_ok-behind.ensures in
    let n = c.in_ok-name.ensures in
    (omega (arith, b.0, n.0), n.1, there (WordName c.args.word) (b.2 ∙ ap (λ r. Word c.args.word ∷ r) (named n.2)) word_name, tt)
