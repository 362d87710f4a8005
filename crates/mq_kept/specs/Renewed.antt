-- Partitions that are given the inputs that they have after a change.
use Rattle.std.specs.Prelude.{◌≡◌, ◌≢◌, ℕ, ◌<◌, ◌⊎◌, List, [], length, get_or, set}
use Rattle.std.specs.List.{All}
use Rattle.mq_ir.specs.declared.query.ModelPart.{ModelPart}
use Rattle.mq_ir.specs.declared.query.PartInput.{PartInput}
use Rattle.mq_ir.specs.Keys.{Tuple}
use Rattle.mq_ir.specs.Partitions.{input_of, partitions}
use Rattle.mq_ir.specs.Ready.{HaveLength, LeftsHavePlaces, width_of}
use Rattle.mq_delta_items.specs.declared.following.ItemChange.{ItemChange}
use Rattle.mq_delta_parts.specs.declared.groups.PartChange.{PartChange}
use Rattle.mq_delta_parts.specs.Changed.{IsChangeIn}
use Rattle.mq_delta_parts.specs.Woven.{IsChangeOf}
use Rattle.mq_kept.specs.declared.kept_view.KeptPart.{KeptPart}

-- these are the inputs over some item rows, and the rules may run over those after the change
pub record MayRenew (part : ModelPart) (change : ItemChange) (inputs : List PartInput) : Type 0 where
  pub before : List Tuple
  pub after : List Tuple
  pub inputs_are : inputs ≡ partitions part before
  pub change_is : IsChangeOf before change.gone change.come after
  pub lefts : LeftsHavePlaces part
  pub wide : HaveLength (width_of part) after

-- ---- one partition, by its rows that went and came

-- this is its input over some item rows, and the rules may run over those after the change
pub record MayFollow (part : ModelPart) (group : PartChange) (input : PartInput) : Type 0 where
  pub before : List Tuple
  pub after : List Tuple
  pub rows : IsChangeIn part input group.gone group.come before after
  pub lefts : LeftsHavePlaces part
  pub wide : HaveLength (width_of part) after

-- a partition with this input is there: it has a cell, or there are no partition columns
abbrev pub IsThere : ModelPart → PartInput → Type 0
IsThere part input = (part.parts ≡ 0) ⊎ (input.cells ≢ [])

-- the new input is the one after the change, over whichever rows, and the partition is there
pub record HasFollowed (part : ModelPart) (group : PartChange) (old new : PartInput) : Type 0 where
  pub input_is : (before after : List Tuple) → IsChangeIn part old group.gone group.come before after → new ≡ input_of part after old.key
  pub there : IsThere part new

-- ---- one of some partitions

-- the partition at this place has this key
pub record IsAt (parts : List KeptPart) (key : Tuple) (at : ℕ) : Type 0 where
  pub within : at < length parts
  pub key_is : (d : KeptPart) → (get_or parts at d).input.key ≡ key

-- the partition of these rows, where it is among these, may follow
abbrev pub OneMayFollow : ModelPart → PartChange → List KeptPart → Type 0
OneMayFollow part group parts = All (λ kept. kept.input.key ≡ group.key → MayFollow part group kept.input) parts

-- it has followed, and the others are as they were
pub record OneFollowed (part : ModelPart) (group : PartChange) (old new : List KeptPart) : Type 0 where
  pub at : ℕ
  pub one : KeptPart
  pub within : at < length old
  pub key_is : (get_or old at one).input.key ≡ group.key
  pub followed : HasFollowed part group (get_or old at one).input one.input
  pub new_is : new ≡ set old at one
