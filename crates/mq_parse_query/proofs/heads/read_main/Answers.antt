use Rattle.std.proofs.Common.{◌∷◌, ap, ◌∙◌, arith}
use Rattle.mq_ast.specs.declared.clauses.TheConstants as clause
use Rattle.mq_lexer.specs.declared.keywords.Keyword.TheVariants as word
use Rattle.mq_ast.specs.Prelude.{MainE, Past, Word, main_none, main_some}
use Rattle.mq_parse_words.specs.StepLemmas.{quit, here, there}
use Rattle.mq_parse_words.specs.NameLemmas.{named}
use Rattle.mq_parse_query.proofs.ModelLemmas.{main_no_name, main_no_end, main_no_word}
use Rattle.mq_parse_query.proofs.heads.read_main.Goals as goal

pub returns-in_err-name-in-Some : goal.returns-in_err-name-in-Some
returns-in_err-name-in-Some c =
    quit MainE c.args.t.now c.args.at c.from_residual.result c.in_err-name-in-Some.field-0.0 c.from_residual.ensures.1 c.in_err-name-in-Some.ensures (λ h. here MainE (Past clause.MAIN) c.in-Some.ensures.2 (main_no_name h))

pub returns-in_err-past-in-Some : goal.returns-in_err-past-in-Some
returns-in_err-past-in-Some c =
    quit MainE c.args.t.now c.args.at c.from_residual-in_err-past-in-Some.result c.in_err-past-in-Some.field-0.0 c.from_residual-in_err-past-in-Some.ensures.1 c.in_err-past-in-Some.ensures (λ h. here MainE (Past clause.MAIN) (c.in-Some.ensures.2 ∙ ap (λ r. Word word.Main ∷ r) (named c.in_ok-name-in-Some.ensures.2)) (main_no_end h))

pub returns-in_ok-past-in-Some : goal.returns-in_ok-past-in-Some
returns-in_ok-past-in-Some c =
    let s = c.in-Some.ensures in
    let f = c.in_ok-name-in-Some.ensures in
    (omega (arith, s.0, f.0), f.1, there MainE (s.2 ∙ ap (λ r. Word word.Main ∷ r) (named f.2)) main_some, c.in_ok-past-in-Some.ensures)

pub returns-in_err-past-in-None : goal.returns-in_err-past-in-None
returns-in_err-past-in-None c =
    quit MainE c.args.t.now c.args.at c.from_residual-in_err-past-in-None.result c.in_err-past-in-None.field-0.0 c.from_residual-in_err-past-in-None.ensures.1 c.in_err-past-in-None.ensures (main_no_word c.in-None.ensures)

pub returns-in_ok-past-in-None : goal.returns-in_ok-past-in-None
returns-in_ok-past-in-None c = (omega arith, c.requires, main_none, c.in_ok-past-in-None.ensures)
