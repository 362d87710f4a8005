-- What kept partitions add to what is gathered, by the rows that they keep.
use Rattle.std.proofs.Common.{◌≡◌, List, Result, Err, sym, ap, subst}
use Rattle.mq_values.specs.Answers.{Gives}
use Rattle.mq_values.specs.declared.faults.QueryFault.{QueryFault}
use Rattle.mq_values.specs.declared.memory.Fail.{Fail}
use Rattle.mq_ir.specs.declared.query.OutCell.{OutCell}
use Rattle.mq_ir.specs.declared.query.PartInput.{PartInput}
use Rattle.mq_ir.specs.declared.query.PartResult.{PartResult}
use Rattle.mq_ir.specs.declared.query.PartResult.TheVariants as result
use Rattle.mq_ir.specs.Answer.{Gathered, partition_step, with_cells}
use Rattle.mq_ir.specs.Unfolding.{Model}
use Rattle.mq_kept.specs.declared.kept_view.ShownRows.{ShownRows}
use Rattle.mq_kept.specs.Kept.{IsShown}
use Rattle.mq_kept.specs.Shown.{rows_of_cells}

module _ (model : Model) (p : PartInput) (gathered : Gathered) where
  abbrev step_by : PartResult → Result Gathered QueryFault
  step_by made = elim made [ result.Rows cells ↦ with_cells model p.key gathered cells | result.Fault fault ↦ Err fault ]

  pub shown_gives : (shown : ShownRows) (r : Result Gathered (Fail QueryFault)) → IsShown model p shown
      → ((cells : List OutCell) → shown ≡ rows_of_cells model.part p.key cells → Gives r (with_cells model p.key gathered cells))
      → Gives r (partition_step model p gathered)
  shown_gives shown r is g =
      subst (Gives r) (sym (ap step_by is.made)) (g is.cells (λ i. record { count = is.count i; rows = is.rows i }))
