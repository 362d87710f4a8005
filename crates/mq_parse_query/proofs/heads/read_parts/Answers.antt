use Rattle.std.proofs.Common.{◌∷◌, ap, ◌∙◌, arith}
use Rattle.mq_ast.specs.declared.clauses.TheConstants as clause
use Rattle.mq_lexer.specs.declared.keywords.Keyword.TheVariants as word
use Rattle.mq_ast.specs.Prelude.{PartsE, Past, Word, parts_none, parts_some}
use Rattle.mq_parse_words.specs.Reading.{from}
use Rattle.mq_parse_words.specs.StepLemmas.{quit, here, there, as_value}
use Rattle.mq_parse_query.proofs.ModelLemmas.{parts_no_by, parts_no_cols, parts_no_end, parts_no_word}
use Rattle.mq_parse_query.proofs.heads.read_parts.Goals as goal

pub returns-in_err-by-in-Some : goal.returns-in_err-by-in-Some
returns-in_err-by-in-Some c =
    quit PartsE c.args.t.now c.args.at c.from_residual.result c.in_err-by-in-Some.field-0.0 c.from_residual.ensures.1 c.in_err-by-in-Some.ensures (λ h. here PartsE (Past clause.PARTITION) c.in-Some.ensures.2 (parts_no_by h))

pub returns-in_err-parts-in-Some : goal.returns-in_err-parts-in-Some
returns-in_err-parts-in-Some c =
    quit PartsE c.args.t.now c.args.at c.from_residual-in_err-parts-in-Some.result c.in_err-parts-in-Some.field-0.0 c.from_residual-in_err-parts-in-Some.ensures.1 c.in_err-parts-in-Some.ensures (λ h. here PartsE (Past clause.PARTITION) (c.in-Some.ensures.2 ∙ ap (λ r. Word word.Partition ∷ r) c.in_ok-by-in-Some.ensures.2) (parts_no_cols h))

pub returns-in_err-past-in-Some : goal.returns-in_err-past-in-Some
returns-in_err-past-in-Some c =
    quit PartsE c.args.t.now c.args.at c.from_residual-in_err-past-in-Some.result c.in_err-past-in-Some.field-0.0 c.from_residual-in_err-past-in-Some.ensures.1 c.in_err-past-in-Some.ensures (λ h. here PartsE (Past clause.PARTITION) (c.in-Some.ensures.2 ∙ ap (λ r. Word word.Partition ∷ r) c.in_ok-by-in-Some.ensures.2) (parts_no_end (from c.args.t.now c.in_ok-parts-in-Some.to) c.in_ok-parts-in-Some.ensures.2 h))

pub returns-in_ok-past-in-Some : goal.returns-in_ok-past-in-Some
returns-in_ok-past-in-Some c =
    let s = c.in-Some.ensures in
    let b = c.in_ok-by-in-Some.ensures in
    let f = c.in_ok-parts-in-Some.ensures in
    (omega (arith, s.0, b.0, f.0), f.1, there PartsE (s.2 ∙ ap (λ r. Word word.Partition ∷ r) b.2) (parts_some f.2), c.in_ok-past-in-Some.ensures)

pub returns-in_err-past-in-None : goal.returns-in_err-past-in-None
returns-in_err-past-in-None c =
    quit PartsE c.args.t.now c.args.at c.from_residual-in_err-past-in-None.result c.in_err-past-in-None.field-0.0 c.from_residual-in_err-past-in-None.ensures.1 c.in_err-past-in-None.ensures (parts_no_word c.in-None.ensures)

pub returns-in_ok-past-in-None : goal.returns-in_ok-past-in-None
returns-in_ok-past-in-None c = (omega arith, c.requires, as_value PartsE c.new.ensures parts_none, c.in_ok-past-in-None.ensures)
