use Rattle.std.proofs.Common.{◌≡◌, map, take}
use Rattle.std.specs.Prelude.{slice_index_or}
use Rattle.mq_values.specs.declared.value.Value.TheVariants.{Null}
use Rattle.mq_tables.proofs.keys.row_key.Given as goal

abbrev pub invariant-columns : goal.invariant-columns
invariant-columns l = l.values ≡ map (λ c. slice_index_or l.row c Null) (take l.column-index l.schema.key)
