use Rattle.std.proofs.Common.{◌*◌, map, length, drop}
use Rattle.mq_ir.specs.LeftLaws.{product_of}
use Rattle.mq_unfold.specs.Spreads.{IsAlike}
use Rattle.mq_unfold.proofs.spreads.number_of.Given as goal

abbrev pub invariant-loop-spread : goal.invariant-loop-spread
invariant-loop-spread l = IsAlike (l.number * product_of (map length (drop l.spread-index l.spreads))) (product_of (map length l.spreads))
