-- What holds of the versions of an input whose keys ascend, and of what they come to.
use Rattle.std.specs.Prelude.{◌≡◌, ◌-◌, List, [], ◌∷◌, map, true, Some, None, slice_get}
use Rattle.std.specs.List.{All, find, fold}
use Rattle.std.specs.List.Sorted.{IsStrictlySortedBy}
use Rattle.std.specs.Map.{keys_of}
use Rattle.mq_values.specs.Order.{cmp_key}
use Rattle.mq_ir.specs.declared.query.CellName.{CellName}
use Rattle.mq_ir.specs.declared.query.Look.TheVariants.{Measure}
use Rattle.mq_ir.specs.declared.query.Slot.TheVariants.{Done}
use Rattle.mq_ir.specs.Histories.{first_own_fault, history, last_slots, node_slot, version_slot}
use Rattle.mq_ir.specs.Keys.{Tuple, is_among}
use Rattle.mq_ir.specs.Partitions.{Cells}
use Rattle.mq_ir.specs.Slots.{done_value}
use Rattle.mq_ir.specs.Unfolding.{Model}
use Rattle.mq_ir.specs.VersionLooks.{VersionLink, Made, is_same_name, name_of, resolved, version_links}
use Rattle.mq_ir.specs.Versions.{Version, versions}

-- what holds of the versions over these keys
pub record AreSound (model : Model) (keys : List Tuple) : Type 0 where
  -- no two have one name: the one that is found by the name of a version is itself
  pub own : All (λ v. find (λ w. is_same_name (name_of v) (name_of w)) (versions model keys) ≡ Some v) (versions model keys)
  -- each is over cells that ascend, each once, and its own cell is there
  pub ascend : All (λ v. IsStrictlySortedBy cmp_key v.set) (versions model keys)
  pub there : All (λ v. is_among v.set v.key ≡ true) (versions model keys)
  -- each is by the rule of its number, from 1
  pub ruled : All (λ v. slice_get model.part.rules (v.number - 1) ≡ Some v.rule) (versions model keys)

abbrev pub VersionsAreSound : Model → List Tuple → Type 0
VersionsAreSound model keys = IsStrictlySortedBy cmp_key keys → AreSound model keys

-- the slot of a version is what its rule makes of the versions, and of the input, that its looks come to
abbrev pub IsWorthItsLooks : Model → Cells → VersionLink → Type 0
IsWorthItsLooks model input link =
    node_slot model input (Made (name_of link.version))
    ≡ version_slot model (keys_of input) link.version (λ c. node_slot model input (resolved link.earlier (Measure c)))

abbrev pub VersionsAreWorthTheirLooks : Model → Cells → Type 0
VersionsAreWorthTheirLooks model input =
    IsStrictlySortedBy cmp_key (keys_of input) → All (IsWorthItsLooks model input) (version_links model (keys_of input))

-- The history pairs each version with its slot.
abbrev pub HistoryIsSlots : Model → Cells → Type 0
HistoryIsSlots model input =
    IsStrictlySortedBy cmp_key (keys_of input)
    → history model input ≡ map (λ v. (v, node_slot model input (Made (name_of v)))) (versions model (keys_of input))

-- versions, the latest first
abbrev pub latest_first : List Version → List Version
latest_first = fold (λ earlier v. v ∷ earlier) []

-- What stands at a measure in the end is the slot of its last version, else the input.
abbrev pub LastVersionStands : Model → Cells → CellName → Type 0
LastVersionStands model input c =
    IsStrictlySortedBy cmp_key (keys_of input)
    → last_slots model input c ≡ node_slot model input (resolved (latest_first (versions model (keys_of input))) (Measure c))

-- Where no version faults by its own evaluation, each is done.
abbrev pub UnfaultedAreDone : Model → Cells → Type 0
UnfaultedAreDone model input = first_own_fault (history model input) ≡ None → All (λ w. w.1 ≡ Done (done_value w.1)) (history model input)
