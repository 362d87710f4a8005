use Rattle.std.proofs.Common.{◌≡◌, take}
use Rattle.std.specs.List.{All}
use Rattle.mq_ir.specs.Unfolding.{Model}
use Rattle.mq_kept.specs.Kept.{IsRight, inputs_of}
use Rattle.mq_kept.proofs.lending.lent_parts.Given as goal

abbrev pub invariant-loop-part : goal.invariant-loop-part
invariant-loop-part l = record {
  same : inputs_of l.lent.items ≡ inputs_of (take l.part-index l.parts);
  right : (model : Model) → All (IsRight model) l.parts → All (IsRight model) l.lent.items;
}
