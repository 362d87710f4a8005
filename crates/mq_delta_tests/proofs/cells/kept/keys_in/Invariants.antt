use Rattle.std.proofs.Common.{◌≡◌, take}
use Rattle.std.specs.Map.{keys_of}
use Rattle.mq_delta_tests.proofs.cells.kept.keys_in.Given as goal

abbrev pub invariant-loop-key : goal.invariant-loop-key
invariant-loop-key l = l.keys.items ≡ keys_of (take l.key-index l.cells)
