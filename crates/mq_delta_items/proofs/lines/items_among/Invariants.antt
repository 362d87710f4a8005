use Rattle.std.proofs.Common.{◌≡◌, take}
use Rattle.mq_delta_items.specs.Lines.{items_in}
use Rattle.mq_delta_items.proofs.lines.items_among.Given as goal

abbrev pub invariant-lines : goal.invariant-lines
invariant-lines l = l.items ≡ items_in (take l.line-index l.lines)
