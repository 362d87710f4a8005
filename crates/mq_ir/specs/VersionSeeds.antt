-- Which versions a change of a partition's input reaches, in sequential order.
use Rattle.std.specs.Prelude.{ℕ, suc, ◌+◌, List, [], ◌∷◌, length, Bool, true, false, ◌&&◌, ◌||◌, not, if◌then◌else◌, Option, Some, None}
use Rattle.std.specs.Cmp.Lexicographic.{pointwise}
use Rattle.std.specs.Map.{keys_of}
use Rattle.std.specs.Ordering.{is_ne}
use Rattle.mq_values.specs.Order.{cmp_value}
use Rattle.mq_ir.specs.declared.query.Look.{Look}
use Rattle.mq_ir.specs.declared.query.Look.TheVariants.{Measure, Presence}
use Rattle.mq_ir.specs.Affected.{is_in_both, is_in_one}
use Rattle.mq_ir.specs.Partitions.{Cells}
use Rattle.mq_ir.specs.Reads.{measure_at}
use Rattle.mq_ir.specs.Rounds.{affected}
use Rattle.mq_ir.specs.Unfolding.{Model}
use Rattle.mq_ir.specs.Versions.{Version, versions}
use Rattle.mq_ir.specs.VersionLooks.{VersionNode, Made, Given, There, is_same_node, looks_at_node, name_of, version_looks}

-- the new history has a version that the old one does not have, or that looks elsewhere
abbrev pub looks_differ : Option (List VersionNode) → Option (List VersionNode) → Bool
looks_differ old None = false
looks_differ None (Some new) = true
looks_differ (Some old) (Some new) = not (pointwise is_same_node old new)

-- where a change of the input begins
abbrev pub is_version_seed : Model → Cells → Cells → VersionNode → Bool
is_version_seed model old new (Made name) =
    looks_differ (looks_at_node model (keys_of old) (Made name)) (looks_at_node model (keys_of new) (Made name))
is_version_seed model old new (Given c) =
    is_in_one (keys_of old) (keys_of new) c.key
    || (is_in_both (keys_of old) (keys_of new) c.key && is_ne (cmp_value (measure_at old c) (measure_at new c)))
is_version_seed model old new (There key) = is_in_one (keys_of old) (keys_of new) key

-- What it reaches: the seeds, and each version of the new history that looks at what it reaches. As many rounds as there
-- are versions are enough.
abbrev pub is_version_affected : Model → Cells → Cells → VersionNode → Bool
is_version_affected model old new =
    affected (looks_at_node model (keys_of new)) (is_version_seed model old new) (length (versions model (keys_of new)))

-- how many looks are at measures
abbrev pub measure_count : List Look → ℕ
measure_count [] = 0
measure_count (Measure c ∷ looks) = suc (measure_count looks)
measure_count (Presence key ∷ looks) = measure_count looks

-- how many measures the versions among these look at that a test picks
abbrev pub looks_of_picked : Model → (VersionNode → Bool) → List Version → ℕ
looks_of_picked model test [] = 0
looks_of_picked model test (v ∷ vs) =
    (if test (Made (name_of v)) then measure_count (version_looks model v) else 0) + looks_of_picked model test vs

-- how many measures the affected versions of the new history look at in all
abbrev pub affected_looks : Model → Cells → Cells → ℕ
affected_looks model old new = looks_of_picked model (is_version_affected model old new) (versions model (keys_of new))
