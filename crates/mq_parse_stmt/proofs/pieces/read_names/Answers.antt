use Rattle.std.proofs.Common.{arith}
use Rattle.mq_ast.specs.Prelude.{NameE, NamesE, SomeOf, names}
use Rattle.mq_parse_words.specs.Reading.{Anywhere}
use Rattle.mq_parse_words.specs.StepLemmas.{quit, here, there, till}
use Rattle.mq_parse_stmt.proofs.PieceLemmas.{names_no_open, names_no_list, names_no_close}
use Rattle.mq_parse_stmt.proofs.pieces.read_names.Goals as goal

pub returns-in_err-open : goal.returns-in_err-open
returns-in_err-open c =
    quit NamesE c.args.t.now c.args.at c.from_residual.result c.in_err-open.field-0.0 c.from_residual.ensures.1 c.in_err-open.ensures (names_no_open)

pub returns-in_err-list : goal.returns-in_err-list
returns-in_err-list c =
    quit NamesE c.args.t.now c.args.at c.from_residual-in_err-list.result c.in_err-list.field-0.0 c.from_residual-in_err-list.ensures.1 c.in_err-list.ensures (λ h. here NamesE Anywhere c.in_ok-open.ensures.2 (names_no_list h))

pub returns-in_err-to : goal.returns-in_err-to
returns-in_err-to c =
    quit NamesE c.args.t.now c.args.at c.from_residual-in_err-to.result c.in_err-to.field-0.0 c.from_residual-in_err-to.ensures.1 c.in_err-to.ensures (λ h. here NamesE Anywhere c.in_ok-open.ensures.2 (names_no_close c.in_ok-list.ensures.2 c.in_ok-list.ensures.3 h))

pub returns : goal.returns
returns c =
    let o = c.in_ok-open.ensures in
    let l = c.in_ok-list.ensures in
    let e = c.in_ok-to.ensures in
    (omega (arith, o.0, l.0, e.0), e.1, there NamesE o.2 (names (till (SomeOf NameE) e.2 l.2)), tt)
