-- Which versions a change of a partition's input reaches, and that the others keep what they came to.
use Rattle.std.specs.Prelude.{◌≡◌, Bool, true, false, ◌||◌}
use Rattle.std.specs.List.{All, list_any}
use Rattle.std.specs.List.Sorted.{IsStrictlySortedBy}
use Rattle.std.specs.Map.{keys_of}
use Rattle.mq_values.specs.Order.{cmp_key}
use Rattle.mq_ir.specs.Histories.{node_slot}
use Rattle.mq_ir.specs.KeptHistories.{kept_slots}
use Rattle.mq_ir.specs.Partitions.{Cells}
use Rattle.mq_ir.specs.RoundLaws.{Within}
use Rattle.mq_ir.specs.Rounds.{some_look}
use Rattle.mq_ir.specs.Unfolding.{Model}
use Rattle.mq_ir.specs.VersionLooks.{VersionLink, VersionName, VersionNode, Made, looks_at_node, name_of, resolved_looks, version_links}
use Rattle.mq_ir.specs.VersionSeeds.{is_version_affected, is_version_seed}
use Rattle.mq_ir.specs.Versions.{Version, versions}
use Rattle.mq_version_laws.specs.KeptLaws.{kept_name}

-- A node is affected exactly where it is a seed, or a version that looks at an affected one.
abbrev pub AffectedByLooks : Model → Cells → Cells → VersionNode → Type 0
AffectedByLooks model old new node =
    is_version_affected model old new node
    ≡ (is_version_seed model old new node || some_look (is_version_affected model old new) (looks_at_node model (keys_of new) node))

-- a set of nodes that has each version that looks at one of them
abbrev pub IsClosed : Model → Cells → (VersionNode → Bool) → Type 0
IsClosed model new held = (node : VersionNode) → some_look held (looks_at_node model (keys_of new) node) ≡ true → held node ≡ true

-- The affected nodes are within every such set that has the seeds.
abbrev pub AffectedIsLeast : Model → Cells → Cells → (VersionNode → Bool) → Type 0
AffectedIsLeast model old new held =
    Within (is_version_seed model old new) held → IsClosed model new held → Within (is_version_affected model old new) held

-- Where the keys stay, no version is a seed.
abbrev pub SameKeysSeedNone : Model → Cells → Cells → VersionName → Type 0
SameKeysSeedNone model old new name = keys_of old ≡ keys_of new → is_version_seed model old new (Made name) ≡ false

-- the cells of both inputs ascend, each once
pub record AreAscending (old new : Cells) : Type 0 where
  pub before : IsStrictlySortedBy cmp_key (keys_of old)
  pub after : IsStrictlySortedBy cmp_key (keys_of new)

-- a node that is not affected has the slot that it had
abbrev pub Keeps : Model → Cells → Cells → VersionNode → Type 0
Keeps model old new node = is_version_affected model old new node ≡ false → node_slot model new node ≡ node_slot model old node

-- So it is of each version of the new history; nothing is asked of faults.
abbrev pub UnaffectedKeep : Model → Cells → Cells → Type 0
UnaffectedKeep model old new = AreAscending old new → All (λ v. Keeps model old new (Made (name_of v))) (versions model (keys_of new))

-- what is kept of a version that is not affected is what was kept of it
abbrev pub StaysKept : Model → Cells → Cells → Version → Type 0
StaysKept model old new v =
    is_version_affected model old new (Made (name_of v)) ≡ false → kept_slots model new (kept_name v) ≡ kept_slots model old (kept_name v)

abbrev pub UnaffectedStayKept : Model → Cells → Cells → Type 0
UnaffectedStayKept model old new = AreAscending old new → All (StaysKept model old new) (versions model (keys_of new))

-- a version is affected exactly where it is a seed, or one of its resolved looks is affected
abbrev pub GoesByLooks : Model → Cells → Cells → VersionLink → Type 0
GoesByLooks model old new link =
    let node = Made (name_of link.version) in
    is_version_affected model old new node
    ≡ (is_version_seed model old new node || list_any (is_version_affected model old new) (resolved_looks model link))

abbrev pub LinksGoByLooks : Model → Cells → Cells → Type 0
LinksGoByLooks model old new =
    IsStrictlySortedBy cmp_key (keys_of new) → All (GoesByLooks model old new) (version_links model (keys_of new))
