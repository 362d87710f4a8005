use Rattle.std.proofs.Common.{arith}
use Rattle.mq_parse_words.specs.StepLemmas.{here, there, gives_as}
use Rattle.mq_parse_words.specs.Reading.{Anywhere}
use Rattle.mq_parse_expr.proofs.FrontLemmas.{is_no_not, is_no_plain}
use Rattle.std.proofs.Common.{true, false}
use Rattle.mq_parse_words.specs.Fronts.{NullOrPresent, IsTestE, asks_any, asks, asks_not}
use Rattle.mq_parse_expr.proofs.fronts.is_test.Goals as goal

pub returns-in-Some : goal.returns-in-Some
returns-in-Some c = let s = c.in-Some.ensures in (omega (arith, s.0), s.1, there IsTestE s.2 asks_any, tt)

pub returns-in-Some-behind_word : goal.returns-in-Some-behind_word
returns-in-Some-behind_word c =
    let s = c.in-Some-behind_word.ensures in
    gives_as IsTestE (NullOrPresent true) Anywhere Anywhere c.args.t.now c.args.at c.in-Some-behind_word.behind c.null_or_present.result (omega (arith, s.0)) (λ a to d r. (there IsTestE s.2 (asks_not d), tt)) (λ h. here IsTestE Anywhere s.2 (is_no_not h)) c.null_or_present.ensures

pub returns-in-None : goal.returns-in-None
returns-in-None c =
    gives_as IsTestE (NullOrPresent false) Anywhere Anywhere c.args.t.now c.args.at c.args.at c.null_or_present-in-None.result (omega arith) (λ a to d r. (asks d, tt)) (λ h. is_no_plain c.in_default.ensures c.in-None.ensures h) c.null_or_present-in-None.ensures
