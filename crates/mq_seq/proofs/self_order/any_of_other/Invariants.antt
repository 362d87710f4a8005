use Rattle.std.proofs.Common.{◌≡◌, drop}
use Rattle.std.specs.List.{list_any}
use Rattle.mq_ir.specs.Sequential.{is_of_other}
use Rattle.mq_refs.specs.LookParts.{looks_in}
use Rattle.mq_seq.proofs.self_order.any_of_other.Given as goal

abbrev pub invariant-parts : goal.invariant-parts
invariant-parts g l = list_any (is_of_other l.set l.m l.target) (looks_in (g.K.CellKeys.set l.cells) (drop l.part-index l.parts))
    ≡ list_any (is_of_other l.set l.m l.target) (looks_in (g.K.CellKeys.set l.cells) l.parts)
