use Rattle.std.proofs.Common.{◌∷◌, arith}
use Rattle.mq_ast.specs.declared.clauses.TheConstants as clause
use Rattle.mq_lexer.specs.declared.keywords.Keyword.TheVariants as word
use Rattle.mq_ast.specs.Prelude.{Past, ReturnE, Word, return_none}
use Rattle.mq_parse_words.specs.StepLemmas.{quit, fronted}
use Rattle.mq_parse_query.proofs.ModelLemmas.{return_no_end}
use Rattle.mq_parse_query.proofs.heads.read_return.Goals as goal

pub returns-in-Some : goal.returns-in-Some
returns-in-Some c = let s = c.in-Some.ensures in fronted ReturnE (Past clause.RETURN) (λ us. Word word.Return ∷ us) c.args.t.now c.args.at c.in-Some.behind c.read_rows.result (omega (arith, s.0)) s.2 c.read_rows.ensures

pub returns-in_err-past-in-None : goal.returns-in_err-past-in-None
returns-in_err-past-in-None c =
    quit ReturnE c.args.t.now c.args.at c.from_residual.result c.in_err-past-in-None.field-0.0 c.from_residual.ensures.1 c.in_err-past-in-None.ensures (return_no_end c.in-None.ensures)

pub returns-in_ok-past-in-None : goal.returns-in_ok-past-in-None
returns-in_ok-past-in-None c = (omega arith, c.requires, return_none, c.in_ok-past-in-None.ensures)
