use Rattle.std.proofs.Common.{◌∷◌, ap, ◌∙◌, arith}
use Rattle.mq_ast.specs.declared.clauses.TheConstants as clause
use Rattle.mq_ast.specs.Prelude.{ManyOf, OptE, Past, Word}
use Rattle.mq_parse_query.specs.Pieces.{first_word}
use Rattle.mq_parse_words.specs.Reading.{from, Anywhere}
use Rattle.mq_parse_words.specs.StepLemmas.{as_value, here, there}
use Rattle.mq_parse_query.proofs.ModelLemmas.{option_no_second, option_whole}
use Rattle.mq_parse_query.proofs.ListLemmas.{quit_turn}
use Rattle.mq_parse_query.proofs.heads.next_option.Goals as goal

pub returns-in_err-to-in-Some : goal.returns-in_err-to-in-Some
returns-in_err-to-in-Some c =
    quit_turn OptE Anywhere c.args.t.now c.args.at c.from_residual.result c.in_err-to-in-Some.field-0.0 c.from_residual.ensures.1 c.in_err-to-in-Some.ensures (λ h. here (ManyOf OptE) (Past clause.OPTION) c.in-Some.ensures.2 (option_no_second c.in-Some.opt (rw c.second_word.ensures at h)))

pub returns-in_ok-new-in-Some : goal.returns-in_ok-new-in-Some
returns-in_ok-new-in-Some c =
    let s = c.in-Some.ensures in
    let e = c.in_ok-to-in-Some.ensures in
    (omega (arith, e.0), e.1, as_value OptE c.in_ok-new-in-Some.ensures (there OptE (s.2 ∙ ap (λ r. Word (first_word c.in-Some.opt) ∷ r) (e.2 ∙ ap (λ k. Word k ∷ from c.args.t.now c.in_ok-to-in-Some.to) c.second_word.ensures)) (option_whole c.in-Some.opt)), tt)
