use Rattle.mq_parse_words.specs.Reading.{Anywhere}
use Rattle.mq_parse_words.specs.StepLemmas.{quit}
use Rattle.mq_parse_stmt.specs.Pieces.{Spot, ValuesEnd, spot}
use Rattle.mq_parse_stmt.proofs.PieceLemmas.{beside_gives, spot_no_part, spot_no_values}
use Rattle.mq_parse_stmt.proofs.explain.read_spot.Goals as goal

pub returns-in_err-part : goal.returns-in_err-part
returns-in_err-part c =
    quit Spot c.args.t.now c.args.at c.from_residual.result c.in_err-part.field-0.0 c.from_residual.ensures.1 c.in_err-part.ensures spot_no_part

pub returns : goal.returns
returns c =
    let p = c.in_ok-part.ensures in
    rw c.beside.ensures (beside_gives Spot ValuesEnd Anywhere c.args.t.now c.args.at c.in_ok-part.mid c.in_ok-part.part c.read_values.result p.0 (λ xs to d. spot p.2 d) (λ h. spot_no_values p.2 h) c.read_values.ensures)
