use Rattle.std.proofs.Common.{◌≡◌, map, take}
use Rattle.std.specs.Prelude.{slice_index_or}
use Rattle.mq_values.specs.declared.value.Value.TheVariants.{Null}
use Rattle.mq_tables.specs.Groups.{groups_of}
use Rattle.mq_tables.proofs.groups.has_groups_of.Given as goal

abbrev pub invariant-places : goal.invariant-places
invariant-places l = groups_of (map (λ c. slice_index_or l.row c Null) (take l.place l.schema.key)) ≡ groups_of (take l.place l.values)
