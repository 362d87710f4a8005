use Rattle.std.proofs.Common.{◌∷◌, arith}
use Rattle.mq_lexer.specs.declared.keywords.Keyword.TheVariants as word
use Rattle.mq_ast.specs.Prelude.{ModelE, Word}
use Rattle.mq_parse_words.specs.Reading.{Anywhere}
use Rattle.mq_parse_words.specs.StepLemmas.{fronted}
use Rattle.mq_parse_query.proofs.QueryLemmas.{model_no_word}
use Rattle.mq_parse_query.proofs.model.read_model.Goals as goal

pub returns-in-Some : goal.returns-in-Some
returns-in-Some c = let s = c.in-Some.ensures in fronted ModelE Anywhere (λ us. Word word.Model ∷ us) c.args.t.now c.args.at c.in-Some.behind c.read_modelling.result (omega (arith, s.0)) s.2 c.read_modelling.ensures

pub returns-in-None : goal.returns-in-None
returns-in-None c = model_no_word c.in-None.ensures
