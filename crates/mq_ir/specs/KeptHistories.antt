-- The form in which the history of an input is kept.
use Rattle.std.specs.Prelude.{ℕ, ◌-◌, List, [], ◌∷◌, ◌++◌, map, Bool, ◌&&◌, ◌==◌, Option, slice_get}
use Rattle.std.specs.List.{find}
use Rattle.std.specs.Option.{option_map, option_map_or}
use Rattle.mq_ir.specs.declared.query.CellName.{CellName}
use Rattle.mq_ir.specs.declared.query.Slot.{Slot}
use Rattle.mq_ir.specs.Expression.{whole}
use Rattle.mq_ir.specs.Histories.{history}
use Rattle.mq_ir.specs.Keys.{Tuple, is_same}
use Rattle.mq_ir.specs.Partitions.{Cells}
use Rattle.mq_ir.specs.Unfolding.{Model}
use Rattle.mq_ir.specs.Versions.{LeftAct, Version, left_walk, version_of, with_keys}
use Rattle.mq_ir.specs.VersionLooks.{VersionName, name_of}

-- What a single left side did. Rules have their numbers from 1, places are counted from 0.
pub record KeptLeft : Type 0 where
  pub rule : ℕ
  pub place : ℕ
  pub measure : ℕ
  pub created : List Tuple
  pub targets : List Tuple

-- the keys of the input, and what each single left side did
pub record KeptHistory : Type 0 where
  pub base : List Tuple
  pub lefts : List KeptLeft

abbrev pub kept_left : LeftAct → KeptLeft
kept_left act =
    let at = act.at in
    record { rule = at.number; place = at.place; measure = at.rule.measure; created = act.created; targets = act.targets }

abbrev pub kept_history : Model → List Tuple → KeptHistory
kept_history model keys = record { base = keys; lefts = map kept_left (left_walk model keys).acts }

-- the versions that kept left sides tell of, over the cells that are there
abbrev pub kept_versions : Model → List Tuple → List KeptLeft → List Version
kept_versions model set [] = []
kept_versions model set (l ∷ ls) =
    let next = with_keys set l.created in
    option_map_or (λ rule. map (version_of l.rule l.place rule next) l.targets) (slice_get model.part.rules (l.rule - 1)) []
    ++ kept_versions model next ls

-- a version is kept under its cell with two more values: the numbers of its rule and of its place
abbrev pub kept_key : VersionName → Tuple
kept_key name = name.key ++ whole name.number ∷ whole name.place ∷ []

abbrev pub is_kept_at : CellName → Version → Bool
is_kept_at c v = is_same c.key (kept_key (name_of v)) && (c.measure == v.rule.measure)

-- what is kept of an input: the slot of each version, and nothing else
abbrev pub kept_slots : Model → Cells → CellName → Option Slot
kept_slots model input c = option_map (λ w. w.1) (find (λ w. is_kept_at c w.0) (history model input))
