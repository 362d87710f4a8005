-- Stretches of neighbouring partitions of a view that is kept, as workers run them.
use Rattle.std.specs.Prelude.{◌≡◌, List}
use Rattle.std.specs.List.{All, flat_map}
use Rattle.mq_ir.specs.declared.query.Model.{Model as Lent}
use Rattle.mq_ir.specs.Unfolding.{model_of}
use Rattle.mq_kept.specs.declared.kept_view.KeptPart.{KeptPart}
use Rattle.mq_kept.specs.Kept.{IsRight, inputs_of}
use Rattle.mq_answers.specs.declared.kept_stretches.KeptStretch.{KeptStretch}

-- what was found of the partitions of a stretch is right for its model
abbrev pub AreRight : {R : Type 0} → KeptStretch R → Type 0
AreRight stretch = All (IsRight (model_of stretch.model.now)) stretch.parts.items

-- this model is put to work over partitions that are right for it
abbrev pub MaySettle : {R : Type 0} → Lent → KeptStretch R → Type 0
MaySettle m stretch = (stretch.model.now ≡ m) × AreRight stretch

-- one stretch is what a run makes of the other: its partitions have the same inputs, and what was found of them is right
abbrev pub IsSettledOf : {R : Type 0} → KeptStretch R → KeptStretch R → Type 0
IsSettledOf before after =
    (inputs_of after.parts.items ≡ inputs_of before.parts.items)
    × All (IsRight (model_of before.model.now)) after.parts.items

-- the partitions of these stretches
abbrev pub parts_in : {R : Type 0} → List (KeptStretch R) → List KeptPart
parts_in stretches = flat_map (λ stretch. stretch.parts.items) stretches
