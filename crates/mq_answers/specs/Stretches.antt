-- Stretches of neighbouring partitions, as workers run them.
use Rattle.std.specs.Prelude.{◌≡◌, List, Bool, true, false, Result, Err, IfOk}
use Rattle.std.specs.List.{All, flat_map}
use Rattle.mq_values.specs.declared.faults.QueryFault.{QueryFault}
use Rattle.mq_ir.specs.declared.query.Model.{Model as Lent}
use Rattle.mq_ir.specs.declared.query.PartInput.{PartInput}
use Rattle.mq_ir.specs.declared.query.PartResult.{PartResult}
use Rattle.mq_ir.specs.declared.query.PartResult.TheVariants as result
use Rattle.mq_ir.specs.Answer.{Gathered, partition_step, with_cells}
use Rattle.mq_ir.specs.Ready.{IsReady}
use Rattle.mq_ir.specs.Results.{each_in_turn}
use Rattle.mq_ir.specs.Unfolding.{Model, model_of}
use Rattle.mq_answers.specs.declared.stretches.Found.{Found}
use Rattle.mq_answers.specs.declared.stretches.Stretch.{Stretch}

-- what was found of a partition, behind what is gathered so far
abbrev pub with_found : Model → Found → Gathered → Result Gathered QueryFault
with_found model found gathered =
    elim found.made [ result.Rows cells ↦ with_cells model found.key gathered cells | result.Fault fault ↦ Err fault ]

-- whether a fault was found
abbrev pub is_fault : PartResult → Bool
is_fault (result.Rows cells) = false
is_fault (result.Fault fault) = true

-- what was found gives what these partitions give one after another, whatever is gathered before them
pub record ComesTo (model : Model) (inputs : List PartInput) (found : List Found) : Type 0 where
  pub is : (before : Gathered) → each_in_turn (with_found model) found before ≡ each_in_turn (partition_step model) inputs before

-- the partitions of a stretch are ready for the rules of its model
abbrev pub IsRunnable : {R : Type 0} → Stretch R → Type 0
IsRunnable stretch = All (IsReady stretch.model.now.part.now) stretch.inputs

-- this model is put to work over partitions that are ready for it
abbrev pub CanRun : {R : Type 0} → Lent → Stretch R → Type 0
CanRun m stretch = (stretch.model.now ≡ m) × IsRunnable stretch

-- one stretch is what a run makes of the other: it has what was found, unless memory ran out
abbrev pub IsRunOf : {R : Type 0} → Stretch R → Stretch R → Type 0
IsRunOf before after =
    (after.model.now ≡ before.model.now) × (after.inputs ≡ before.inputs)
    × IfOk after.found (ComesTo (model_of before.model.now) before.inputs)

-- what a stretch makes of what is gathered so far
abbrev pub with_stretch : {R : Type 0} → Model → Stretch R → Gathered → Result Gathered QueryFault
with_stretch model stretch gathered = each_in_turn (partition_step model) stretch.inputs gathered

-- a stretch over which this model was put to work
abbrev pub HasRun : {R : Type 0} → Lent → Stretch R → Type 0
HasRun m stretch = IfOk stretch.found (ComesTo (model_of m) stretch.inputs)

-- the partitions of these stretches
abbrev pub inputs_in : {R : Type 0} → List (Stretch R) → List PartInput
inputs_in stretches = flat_map (λ stretch. stretch.inputs) stretches
