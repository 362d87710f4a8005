use Rattle.std.proofs.Common.{arith}
use Rattle.mq_ast.specs.Prelude.{iterate_some}
use Rattle.mq_parse_words.specs.StepLemmas.{quit}
use Rattle.mq_parse_query.specs.Pieces.{Iterates}
use Rattle.mq_parse_query.proofs.HeadLemmas.{turns_no_int, turns_no_until}
use Rattle.mq_parse_query.proofs.heads.read_turns.Goals as goal

pub returns-in_err-number : goal.returns-in_err-number
returns-in_err-number c =
    quit Iterates c.args.t.now c.args.at c.from_residual.result c.in_err-number.field-0.0 c.from_residual.ensures.1 c.in_err-number.ensures (turns_no_int)

pub returns-in_err-until : goal.returns-in_err-until
returns-in_err-until c =
    quit Iterates c.args.t.now c.args.at c.from_residual-in_err-until.result c.in_err-until.field-0.0 c.from_residual-in_err-until.ensures.1 c.in_err-until.ensures (turns_no_until c.in_ok-number.ensures.2)

pub returns : goal.returns
returns c =
    let k = c.in_ok-number.ensures in
    let u = c.in_ok-until.ensures in
    (omega (arith, k.0, u.0), u.1, iterate_some k.2 u.2, u.3)
