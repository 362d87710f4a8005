use Rattle.std.proofs.Common.{◌≡◌, ◌++◌, drop, map}
use Rattle.mq_cells.specs.IndexedStores.{slots_in}
use Rattle.mq_lineage.specs.Told.{step_told}
use Rattle.mq_lineage.proofs.steps.lent_steps_of.Given as goal

abbrev pub invariant-steps : goal.invariant-steps
invariant-steps l =
    l.steps ++ map (step_told (slots_in l.cells)) (drop l.each-index l.told) ≡ map (step_told (slots_in l.cells)) l.told
