use Rattle.std.proofs.Common.{◌≡◌, ◌++◌}
use Rattle.mq_delta_items.specs.Following.{stay_of, went_of}
use Rattle.mq_delta_items.specs.Lines.{items_in}
use Rattle.mq_delta_items.proofs.following.part_lines.Given as goal

abbrev pub invariant-lines : goal.invariant-lines
invariant-lines l = record { left : l.lines ≡ l.fn.lines ++ stay_of l.flags l.yielded; gone : l.gone ≡ items_in (went_of l.flags l.yielded) }
