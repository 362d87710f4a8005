use Rattle.std.proofs.Common.{arith}
use Rattle.mq_parse_words.specs.Reading.{Anywhere}
use Rattle.mq_parse_words.specs.StepLemmas.{quit, here, there}
use Rattle.mq_parse_stmt.specs.Pieces.{Body, KeyEnd, body}
use Rattle.mq_parse_stmt.proofs.PieceLemmas.{beside_gives, body_no_open, body_no_cols, body_no_key}
use Rattle.mq_parse_stmt.proofs.create.read_body.Goals as goal

pub returns-in_err-open : goal.returns-in_err-open
returns-in_err-open c =
    quit Body c.args.t.now c.args.at c.from_residual.result c.in_err-open.field-0.0 c.from_residual.ensures.1 c.in_err-open.ensures body_no_open

pub returns-in_err-cols : goal.returns-in_err-cols
returns-in_err-cols c =
    quit Body c.args.t.now c.args.at c.from_residual-in_err-cols.result c.in_err-cols.field-0.0 c.from_residual-in_err-cols.ensures.1 c.in_err-cols.ensures (λ h. here Body Anywhere c.in_ok-open.ensures.2 (body_no_cols h))

pub returns : goal.returns
returns c =
    let o = c.in_ok-open.ensures in
    let l = c.in_ok-cols.ensures in
    rw c.beside.ensures (beside_gives Body KeyEnd Anywhere c.args.t.now c.args.at c.in_ok-cols.mid c.in_ok-cols.cols c.read_key_end.result (omega (arith, o.0, l.0)) (λ b to d. there Body o.2 (body l.2 d)) (λ h. here Body Anywhere o.2 (body_no_key l.2 l.3 h)) c.read_key_end.ensures)
