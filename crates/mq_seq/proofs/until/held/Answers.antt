use Rattle.std.proofs.Common.{subst}
use Rattle.std.specs.Map.{keys_of}
use Rattle.mq_values.specs.Answers.{Gives}
use Rattle.mq_ir.specs.Expression.{holds}
use Rattle.mq_ir.specs.Reads.{measure_at, read_until}
use Rattle.mq_ir.specs.Unfolding.{model_of}
use Rattle.mq_seq.specs.Tracks.{measure_from}
use Rattle.mq_seq.proofs.until.held.Goals as goal

pub returns : goal.returns
returns c =
    let grid = c.args.grid.now in
    subst (Gives c.holds.result)
    (λ i. holds (read_until (record { model = model_of c.args.m.now; target = c.empty-target.ensures i; turn = c.args.turn; set = keys_of grid.track.cells }) grid.input (measure_at grid.track.cells) (measure_from grid.track)) c.args.e.now)
    c.holds.ensures.exact
