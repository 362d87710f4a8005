use Rattle.std.proofs.Common.{◌∷◌, ap, arith}
use Rattle.mq_lexer.specs.declared.keywords.Keyword.TheVariants as word
use Rattle.mq_ast.specs.Prelude.{HeadE, Opens, Word, head_none, terminal_at}
use Rattle.mq_parse_words.specs.StepLemmas.{quit, as_value, fronted}
use Rattle.mq_parse_query.proofs.HeadLemmas.{heading_no_open}
use Rattle.mq_parse_query.proofs.heads.read_head.Goals as goal

pub returns-in-Some : goal.returns-in-Some
returns-in-Some c = let s = c.in-Some.ensures in fronted HeadE Opens (λ us. Word word.Rules ∷ us) c.args.t.now c.args.at c.in-Some.behind c.read_ruling.result (omega (arith, s.0)) s.2 c.read_ruling.ensures

pub returns-in_err-pass_sign-in-None : goal.returns-in_err-pass_sign-in-None
returns-in_err-pass_sign-in-None c =
    quit HeadE c.args.t.now c.args.at c.from_residual.result c.in_err-pass_sign-in-None.field-0.0 c.from_residual.ensures.1 c.in_err-pass_sign-in-None.ensures (heading_no_open c.in-None.ensures)

pub returns-in_ok-head_from-in-None : goal.returns-in_ok-head_from-in-None
returns-in_ok-head_from-in-None c = (omega arith, c.requires, as_value HeadE c.in_ok-head_from-in-None.ensures head_none, ap terminal_at c.in_ok-pass_sign-in-None.ensures.2)
