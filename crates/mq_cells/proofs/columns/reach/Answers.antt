use Rattle.std.proofs.Common.{[], ◌∷◌, ◌++◌, List, ap, ◌∙◌}
use Rattle.mq_cells.specs.Columns.{Column, results_in}
use Rattle.mq_cells.proofs.ColumnLemmas.{empty_behind}
use Rattle.mq_cells.proofs.columns.reach.Goals as goal

pub reaching-preserved : goal.reaching-preserved
reaching-preserved c =
    let before = c.reaching.columns.items in
    ap (λ (columns : List Column). results_in columns) (c.in_ok-push.ensures.items ∙ ap (λ (column : Column). before ++ column ∷ []) c.new.ensures)
    ∙ empty_behind before ∙ c.reaching.invariant
