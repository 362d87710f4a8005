use Rattle.std.proofs.Common.{◌≡◌, false}
use Rattle.std.specs.Map.{keys_of}
use Rattle.mq_dim_index.specs.Places.{is_there}
use Rattle.mq_ir.specs.Keys.{Tuple}
use Rattle.mq_seq.specs.Marks.{IsFresh}
use Rattle.mq_seq.proofs.CreatedLemmas.{created_one}
use Rattle.mq_seq.proofs.StepLemmas.{Folded}
use Rattle.mq_seq.proofs.grid.Grid.with_created.Given as goal

abbrev pub invariant-created : goal.invariant-created
invariant-created l = record {
  folded : Folded created_one l.fn.self l.created l.key-index l.grid;
  fresh : (key : Tuple) → is_there (keys_of l.fn.self.track.cells) key ≡ false → IsFresh l.grid.count l.grid.track.cells key;
  same_width : l.grid.width ≡ l.fn.self.width;
}
