-- What is found at a place of a round, by whichever thread.
use Rattle.std.specs.Prelude.{◌≡◌, ℕ}
use Rattle.mq_ir.specs.declared.query.Slot.{Slot}
use Rattle.mq_cells.specs.IndexedStores.{IndexedStore, slots_in}
use Rattle.mq_auto.specs.declared.work.Work.{Work}
use Rattle.mq_auto.specs.Walks.{IsSlotOver, model_in}

-- a place, and what the rule of the assignment there makes of its cell over what stands in a store
pub record IsFoundIn (work : Work) (store : IndexedStore) (place : ℕ) (found : ℕ × Slot) : Type 0 where
  pub same : found.0 ≡ place
  pub slot : IsSlotOver (model_in work) work.shape.now (slots_in store) found
