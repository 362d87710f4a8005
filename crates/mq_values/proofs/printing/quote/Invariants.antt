use Rattle.std.proofs.Common.{◌≡◌, ◌∷◌, ◌++◌, take}
use Rattle.std.specs.List.{flat_map}
use Rattle.mq_values.specs.Bytes.{QUOTE}
use Rattle.mq_values.specs.Print.{doubled}
use Rattle.mq_values.proofs.printing.quote.Given as goal

abbrev pub invariant-loop-byte : goal.invariant-loop-byte
invariant-loop-byte l = l.out.items ≡ l.fn.out.items ++ (QUOTE ∷ flat_map doubled (take l.byte-index l.bytes))
