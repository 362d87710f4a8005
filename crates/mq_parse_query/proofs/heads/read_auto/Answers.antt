use Rattle.std.proofs.Common.{true, false, arith}
use Rattle.mq_ast.specs.declared.clauses.TheConstants as clause
use Rattle.mq_ast.specs.Prelude.{AutoE, Past, auto_none}
use Rattle.mq_parse_query.specs.Pieces.{AutoEnd}
use Rattle.mq_parse_words.specs.StepLemmas.{quit, here, there, gives_as}
use Rattle.mq_parse_query.proofs.HeadLemmas.{auto_no_yes, auto_no_no, yes_auto, no_auto, auto_no_word}
use Rattle.mq_parse_query.proofs.heads.read_auto.Goals as goal

pub returns-in-Some : goal.returns-in-Some
returns-in-Some c =
    let s = c.in-Some.ensures in
    gives_as AutoE (AutoEnd true) (Past clause.ORDER) (Past clause.ORDER) c.args.t.now c.args.at c.in-Some.behind c.read_auto_end.result (omega (arith, s.0)) (λ a to d r. (there AutoE s.2 (yes_auto d), r)) (λ h. here AutoE (Past clause.ORDER) s.2 (auto_no_yes h)) c.read_auto_end.ensures

pub returns-in-Some-behind_word : goal.returns-in-Some-behind_word
returns-in-Some-behind_word c =
    let s = c.in-Some-behind_word.ensures in
    gives_as AutoE (AutoEnd false) (Past clause.ORDER) (Past clause.ORDER) c.args.t.now c.args.at c.in-Some-behind_word.behind c.read_auto_end-in-Some-behind_word.result (omega (arith, s.0)) (λ a to d r. (there AutoE s.2 (no_auto d), r)) (λ h. here AutoE (Past clause.ORDER) s.2 (auto_no_no h)) c.read_auto_end-in-Some-behind_word.ensures

pub returns-in_err-past-in-None : goal.returns-in_err-past-in-None
returns-in_err-past-in-None c =
    quit AutoE c.args.t.now c.args.at c.from_residual.result c.in_err-past-in-None.field-0.0 c.from_residual.ensures.1 c.in_err-past-in-None.ensures (auto_no_word c.in_default.ensures c.in-None.ensures)

pub returns-in_ok-past-in-None : goal.returns-in_ok-past-in-None
returns-in_ok-past-in-None c = (omega arith, c.requires, auto_none, c.in_ok-past-in-None.ensures)
