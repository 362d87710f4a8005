use Rattle.std.proofs.Common.{◌∷◌, ap, ◌∙◌, arith}
use Rattle.mq_ast.specs.declared.levels.TheConstants as level
use Rattle.mq_lexer.specs.declared.keywords.Keyword.TheVariants as word
use Rattle.mq_ast.specs.Prelude.{NotNullE, Stops, Word, null_may, null_not}
use Rattle.mq_parse_words.specs.StepLemmas.{quit, here, there}
use Rattle.mq_parse_stmt.proofs.PieceLemmas.{null_no_null, null_no_end, null_no_plain}
use Rattle.mq_parse_stmt.proofs.create.read_not_null.Goals as goal

pub returns-in_err-to-in-Some : goal.returns-in_err-to-in-Some
returns-in_err-to-in-Some c =
    quit NotNullE c.args.t.now c.args.at c.from_residual.result c.in_err-to-in-Some.field-0.0 c.from_residual.ensures.1 c.in_err-to-in-Some.ensures (λ h. here NotNullE (Stops level.EXPRESSION) c.in-Some.ensures.2 (null_no_null h))

pub returns-in_err-settled-in-Some : goal.returns-in_err-settled-in-Some
returns-in_err-settled-in-Some c =
    quit NotNullE c.args.t.now c.args.at c.from_residual-in_err-settled-in-Some.result c.in_err-settled-in-Some.field-0.0 c.from_residual-in_err-settled-in-Some.ensures.1 c.in_err-settled-in-Some.ensures (λ h. here NotNullE (Stops level.EXPRESSION) (c.in-Some.ensures.2 ∙ ap (λ r. Word word.Not ∷ r) c.in_ok-to-in-Some.ensures.2) (null_no_end h))

pub returns-in_ok-settled-in-Some : goal.returns-in_ok-settled-in-Some
returns-in_ok-settled-in-Some c =
    let s = c.in-Some.ensures in
    let e = c.in_ok-to-in-Some.ensures in
    (omega (arith, s.0, e.0), e.1, there NotNullE (s.2 ∙ ap (λ r. Word word.Not ∷ r) e.2) null_not, c.in_ok-settled-in-Some.ensures)

pub returns-in_err-settled-in-None : goal.returns-in_err-settled-in-None
returns-in_err-settled-in-None c =
    quit NotNullE c.args.t.now c.args.at c.from_residual-in_err-settled-in-None.result c.in_err-settled-in-None.field-0.0 c.from_residual-in_err-settled-in-None.ensures.1 c.in_err-settled-in-None.ensures (λ h. null_no_plain c.in-None.ensures h)

pub returns-in_ok-settled-in-None : goal.returns-in_ok-settled-in-None
returns-in_ok-settled-in-None c =
    (omega arith, c.requires, null_may, c.in_ok-settled-in-None.ensures)
