-- A history has the versions of its keys.
use Rattle.std.proofs.Common.{◌≡◌, List, [], ◌∷◌, map, refl, sym, ap, ◌∙◌}
use Rattle.std.specs.Map.{keys_of}
use Rattle.mq_ir.specs.Histories.{given_slots, slots_from, version_slot, with_slot}
use Rattle.mq_ir.specs.Keys.{Tuple}
use Rattle.mq_ir.specs.Partitions.{Cells}
use Rattle.mq_ir.specs.Slots.{Slots}
use Rattle.mq_ir.specs.Unfolding.{Model}
use Rattle.mq_ir.specs.Versions.{Version, versions}
use Rattle.mq_version_laws.specs.RunLaws.{HistoryHasVersions, VersionsSeeNoValue}

versions_told : (model : Model) (keys : List Tuple) (vs : List Version) (slots : Slots)
    → map (λ w. w.0) (slots_from model keys vs slots) ≡ vs
versions_told model keys [] slots = refl
versions_told model keys (v ∷ vs) slots = ap (λ l. v ∷ l) (versions_told model keys vs (with_slot slots v (version_slot model keys v slots)))

pub has_versions : (model : Model) (input : Cells) → HistoryHasVersions model input
has_versions model input = versions_told model (keys_of input) (versions model (keys_of input)) (given_slots input)

pub see_no_value : (model : Model) (a b : Cells) → VersionsSeeNoValue model a b
see_no_value model a b h = has_versions model a ∙ ap (versions model) h ∙ sym (has_versions model b)
