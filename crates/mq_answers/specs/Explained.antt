-- What explaining a measure of a cell comes to, with a fault of what its query reads set apart; and kept partitions by their keys.
use Rattle.std.specs.Prelude.{Bool, List, Result, Ok}
use Rattle.std.specs.List.{find}
use Rattle.std.specs.List.Sorted.{IsStrictlySortedBy}
use Rattle.std.specs.Option.{option_map_or}
use Rattle.std.specs.Ordering.{on}
use Rattle.mq_values.specs.Order.{cmp_key}
use Rattle.mq_values.specs.declared.faults.QueryFault.{QueryFault}
use Rattle.mq_ir.specs.declared.query.BoundQuery.{BoundQuery}
use Rattle.mq_ir.specs.declared.query.CellName.{CellName}
use Rattle.mq_ir.specs.declared.query.Explained.{Explained}
use Rattle.mq_ir.specs.declared.query.Explained.TheVariants as explained
use Rattle.mq_ir.specs.declared.query.ModelPart.{ModelPart}
use Rattle.mq_ir.specs.declared.query.PartInput.{PartInput}
use Rattle.mq_ir.specs.Answer.{model_over}
use Rattle.mq_ir.specs.Explaining.{explained_in, model_with_items}
use Rattle.mq_ir.specs.Keys.{is_same}
use Rattle.mq_ir.specs.Partitions.{Tuple, partitions}
use Rattle.mq_ir.specs.Results.{◌>>=◌}
use Rattle.mq_ir.specs.Tables.{Tables}
use Rattle.mq_ir.specs.Unfolding.{Model}
use Rattle.mq_kept.specs.declared.kept_view.KeptPart.{KeptPart}

-- in the partition with this key among these, where there is one
abbrev pub explained_among : Model → List PartInput → Tuple → CellName → Explained
explained_among model inputs key c = option_map_or (explained_in model c) (find (λ p. is_same key p.key) inputs) explained.NoPartition

-- over the items of a query
abbrev pub explained_items : Tables → List Tuple → ModelPart → Tuple → CellName → Result Explained QueryFault
explained_items tables items part key c = model_over tables part >>= (λ model. Ok (explained_among model (partitions part items) key c))

abbrev pub explained_with : Tables → BoundQuery → ModelPart → Tuple → CellName → Result Explained QueryFault
explained_with tables q part key c =
    model_with_items tables q part >>= (λ found. Ok (explained_among found.1 (partitions part found.0) key c))

-- ---- partitions that are kept
abbrev pub key_of : KeptPart → Tuple
key_of kept = kept.input.key

abbrev pub has_key : Tuple → KeptPart → Bool
has_key key kept = is_same key kept.input.key

-- they ascend by their keys, each once
abbrev pub PartsAscend : List KeptPart → Type 0
PartsAscend parts = IsStrictlySortedBy (on key_of cmp_key) parts
