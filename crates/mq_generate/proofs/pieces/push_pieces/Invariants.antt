use Rattle.std.proofs.Common.{◌≡◌, ◌++◌, take}
use Rattle.mq_generate.specs.Pieces.{text_of_pieces}
use Rattle.mq_generate.proofs.pieces.push_pieces.Given as goal

abbrev pub invariant-pieces : goal.invariant-pieces
invariant-pieces l = l.out.items ≡ l.fn.out.items ++ text_of_pieces (take l.piece-index l.pieces)
