use Rattle.std.proofs.Common.{◌∷◌, arith}
use Rattle.mq_ast.specs.declared.clauses.TheConstants as clause
use Rattle.mq_lexer.specs.declared.keywords.Keyword.TheVariants as word
use Rattle.mq_ast.specs.Prelude.{MaybeMode, Past, Word, mode_none, mode_some, mode_update}
use Rattle.mq_parse_words.specs.StepLemmas.{quit, here, there, fronted}
use Rattle.mq_parse_query.proofs.RuleLemmas.{mode_no_update, mode_no_word}
use Rattle.mq_parse_query.proofs.rules.read_mode.Goals as goal

pub returns-in_err-past : goal.returns-in_err-past
returns-in_err-past c =
    quit MaybeMode c.args.t.now c.args.at c.from_residual.result c.in_err-past.field-0.0 c.from_residual.ensures.1 c.in_err-past.ensures (λ h. here MaybeMode (Past clause.MODE) c.in-Some.ensures.2 (mode_no_update h))

pub returns-in-Some : goal.returns-in-Some
returns-in-Some c = let s = c.in-Some.ensures in (omega (arith, s.0), s.1, there MaybeMode s.2 (mode_some mode_update), c.in_ok-past.ensures)

pub returns-in-Some-behind_word : goal.returns-in-Some-behind_word
returns-in-Some-behind_word c = let s = c.in-Some-behind_word.ensures in fronted MaybeMode (Past clause.MODE) (λ us. Word word.Upsert ∷ us) c.args.t.now c.args.at c.in-Some-behind_word.behind c.read_upsert.result (omega (arith, s.0)) s.2 c.read_upsert.ensures

pub returns-in_err-past-in-None : goal.returns-in_err-past-in-None
returns-in_err-past-in-None c =
    quit MaybeMode c.args.t.now c.args.at c.from_residual-in_err-past-in-None.result c.in_err-past-in-None.field-0.0 c.from_residual-in_err-past-in-None.ensures.1 c.in_err-past-in-None.ensures (mode_no_word c.in_default.ensures c.in-None.ensures)

pub returns-in_ok-past-in-None : goal.returns-in_ok-past-in-None
returns-in_ok-past-in-None c = (omega arith, c.requires, mode_none, c.in_ok-past-in-None.ensures)
