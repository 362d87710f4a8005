use Rattle.std.proofs.Common.{◌∷◌, arith}
use Rattle.mq_ast.specs.Prelude.{comma, primary_none}
use Rattle.mq_parse_words.specs.Reading.{Anywhere}
use Rattle.mq_parse_words.specs.StepLemmas.{quit, there, as_value, fronted}
use Rattle.mq_parse_stmt.specs.Pieces.{KeyEnd}
use Rattle.mq_parse_stmt.proofs.PieceLemmas.{key_no_close}
use Rattle.mq_parse_stmt.proofs.create.read_key_end.Goals as goal

pub returns-in-Some : goal.returns-in-Some
returns-in-Some c =
    let s = c.in-Some.ensures in
    fronted KeyEnd Anywhere (λ us. comma ∷ us) c.args.t.now c.args.at c.in-Some.behind c.read_key.result (omega (arith, s.0)) s.2 c.read_key.ensures

pub returns-in_err-to-in-None : goal.returns-in_err-to-in-None
returns-in_err-to-in-None c =
    quit KeyEnd c.args.t.now c.args.at c.from_residual.result c.in_err-to-in-None.field-0.0 c.from_residual.ensures.1 c.in_err-to-in-None.ensures (λ h. key_no_close c.in-None.ensures h)

pub returns-in_ok-to-in-None : goal.returns-in_ok-to-in-None
returns-in_ok-to-in-None c =
    let e = c.in_ok-to-in-None.ensures in
    (omega (arith, e.0), e.1, as_value KeyEnd c.new.ensures (there KeyEnd e.2 primary_none), tt)
