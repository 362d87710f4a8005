-- Partitions of a view that are lent, and the view that they are partitions of.
use Rattle.std.specs.Prelude.{List, None, Some}
use Rattle.mq_kept.specs.declared.kept_view.KeptPart.{KeptPart}
use Rattle.mq_kept.specs.declared.kept_view.KeptView.{KeptView}
use Rattle.mq_kept.specs.declared.kept_view.PartState.TheVariants.{NotKept}
use Rattle.mq_kept.specs.declared.lending.Held.{Held}
use Rattle.mq_kept.specs.declared.lending.Held.TheVariants as held

-- of a partition that is lent its input and the rows that it shows; one that is owned as it is
abbrev pub part_in : Held → KeptPart
part_in (held.Lent input shown) = record { input = input.now; state = NotKept; shown = Some shown.now }
part_in (held.Own part) = part

-- the view with these partitions in the place of its own
abbrev pub with_parts : KeptView → List KeptPart → KeptView
with_parts view parts = record { lists = view.lists; refs = view.refs; parts = parts; lines = None }
