use Rattle.std.proofs.Common.{arith}
use Rattle.mq_dim_index.specs.PlaceRuns.{numbers_of}
use Rattle.mq_dim_index.proofs.PlaceRunLemmas.{one_written}
use Rattle.mq_dim_index.proofs.place_runs.places_of.Goals as goal

pub loop-run-preserved : goal.loop-run-preserved
loop-run-preserved c =
    let runs = c.args.runs.now in
    one_written runs c.loop-run.run-index _ c.loop-run.places.items c.add_places.new.places.items (numbers_of runs) (omega arith) c.in_ok-add_places.ensures c.loop-run.invariant
