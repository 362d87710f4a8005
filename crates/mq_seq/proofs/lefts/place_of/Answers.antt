use Rattle.std.proofs.Common.{ap, ◌∙◌}
use Rattle.std.specs.Map.{keys_of}
use Rattle.std.specs.Prelude.{is_some}
use Rattle.mq_dim_index.specs.Places.{place_of}
use Rattle.mq_seq.proofs.PlaceLemmas.{placed_there}
use Rattle.mq_seq.proofs.lefts.place_of.Goals as goal

pub returns-clause-there : goal.returns-clause-there
returns-clause-there c =
    ap is_some c.find.ensures ∙ (λ i. is_some (place_of (c.index.ensures.keys i) (c.as_slice.ensures i))) ∙ placed_there c.args.key.now (keys_of c.args.grid.now.track.cells)
