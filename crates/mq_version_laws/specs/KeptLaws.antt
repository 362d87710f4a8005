-- What the kept form of a history tells.
use Rattle.std.specs.Prelude.{◌≡◌, ℕ, List, length, false, Some, None, IfOk}
use Rattle.std.specs.List.{All}
use Rattle.std.specs.List.Sorted.{IsStrictlySortedBy}
use Rattle.std.specs.Map.{keys_of}
use Rattle.mq_values.specs.Order.{cmp_key}
use Rattle.mq_ir.specs.declared.query.CellName.{CellName}
use Rattle.mq_ir.specs.Histories.{node_slot}
use Rattle.mq_ir.specs.Keys.{Tuple}
use Rattle.mq_ir.specs.KeptHistories.{is_kept_at, kept_history, kept_key, kept_slots, kept_versions}
use Rattle.mq_ir.specs.Partitions.{Cells}
use Rattle.mq_ir.specs.Ready.{HaveLength}
use Rattle.mq_ir.specs.Unfolding.{Model}
use Rattle.mq_ir.specs.VersionLooks.{VersionName, Made, name_of}
use Rattle.mq_ir.specs.Versions.{Version, all_lefts, versions}

-- The kept form of a history tells its versions.
abbrev pub HistoryTellsItsVersions : Model → List Tuple → Type 0
HistoryTellsItsVersions model keys =
    let kept = kept_history model keys in kept_versions model kept.base kept.lefts ≡ versions model keys

-- The key under which a version is kept tells its name.
abbrev pub KeptKeyTells : VersionName → VersionName → Type 0
KeptKeyTells a b = kept_key a ≡ kept_key b → a ≡ b

-- where a version is kept
abbrev pub kept_name : Version → CellName
kept_name v = record { key = kept_key (name_of v); measure = v.rule.measure }

-- What is kept at a version is its slot.
abbrev pub KeptSlotsAreSlots : Model → Cells → Type 0
KeptSlotsAreSlots model input =
    IsStrictlySortedBy cmp_key (keys_of input)
    → All (λ v. kept_slots model input (kept_name v) ≡ Some (node_slot model input (Made (name_of v)))) (versions model (keys_of input))

-- Nothing is kept where no version is.
abbrev pub NothingKeptElsewhere : Model → Cells → CellName → Type 0
NothingKeptElsewhere model input c =
    All (λ v. is_kept_at c v ≡ false) (versions model (keys_of input)) → kept_slots model input c ≡ None

-- each single left side has so many places
abbrev pub LeftsAreWide : ℕ → Model → Type 0
LeftsAreWide n model = All (λ left. IfOk left (λ at. length at.left.places ≡ n)) (all_lefts model)

-- Where the keys have so many values too, so has the cell of each version.
abbrev pub VersionsAreWide : ℕ → Model → List Tuple → Type 0
VersionsAreWide n model keys = LeftsAreWide n model → HaveLength n keys → All (λ v. length v.key ≡ n) (versions model keys)

-- Then nothing is kept where a cell of the input would be.
abbrev pub KeptApart : ℕ → Model → Cells → CellName → Type 0
KeptApart n model input c =
    LeftsAreWide n model → HaveLength n (keys_of input) → length c.key ≡ n → kept_slots model input c ≡ None
