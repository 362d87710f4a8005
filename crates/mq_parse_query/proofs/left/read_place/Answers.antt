use Rattle.std.proofs.Common.{◌∷◌, arith}
use Rattle.mq_ast.specs.declared.levels.TheConstants as level
use Rattle.mq_lexer.specs.declared.keywords.Keyword.TheVariants as word
use Rattle.mq_ast.specs.Prelude.{LitE, Stops, Word, lit_any, lit_expr}
use Rattle.mq_parse_words.specs.StepLemmas.{quit, as_value, here, there, fronted}
use Rattle.mq_parse_query.proofs.RuleLemmas.{place_no_any, place_no_expr}
use Rattle.mq_parse_query.proofs.left.read_place.Goals as goal

pub returns-in_err-settled : goal.returns-in_err-settled
returns-in_err-settled c =
    quit LitE c.args.t.now c.args.at c.from_residual.result c.in_err-settled.field-0.0 c.from_residual.ensures.1 c.in_err-settled.ensures (λ h. here LitE (Stops level.EXPRESSION) c.in-Some.ensures.2 (place_no_any h))

pub returns-in-Some : goal.returns-in-Some
returns-in-Some c = let s = c.in-Some.ensures in (omega (arith, s.0), s.1, as_value LitE c.in_ok-any_place.ensures (there LitE s.2 lit_any), c.in_ok-settled.ensures)

pub returns-in-Some-behind_word : goal.returns-in-Some-behind_word
returns-in-Some-behind_word c = let s = c.in-Some-behind_word.ensures in fronted LitE (Stops level.EXPRESSION) (λ us. Word word.For ∷ us) c.args.t.now c.args.at c.in-Some-behind_word.behind c.read_for.result (omega (arith, s.0)) s.2 c.read_for.ensures

pub returns-in_err-e-in-None : goal.returns-in_err-e-in-None
returns-in_err-e-in-None c =
    quit LitE c.args.t.now c.args.at c.from_residual-in_err-e-in-None.result c.in_err-e-in-None.field-0.0 c.from_residual-in_err-e-in-None.ensures.1 c.in_err-e-in-None.ensures (place_no_expr c.in_default.ensures c.in-None.ensures)

pub returns-in_ok-one_place-in-None : goal.returns-in_ok-one_place-in-None
returns-in_ok-one_place-in-None c = let f = c.in_ok-e-in-None.ensures in (f.0, f.1, as_value LitE c.in_ok-one_place-in-None.ensures (lit_expr f.2), f.3)
