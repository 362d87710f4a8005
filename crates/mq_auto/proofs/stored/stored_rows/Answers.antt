use Rattle.std.proofs.Common.{List, ap, ◌∙◌}
use Rattle.std.specs.List.{list_any}
use Rattle.mq_ir.specs.Keys.{is_same}
use Rattle.mq_ir.specs.Shape.{Assignment}
use Rattle.mq_auto.proofs.stored.stored_rows.Goals as goal

pub stored_cell-requires-clause-updated : goal.stored_cell-requires-clause-updated
stored_cell-requires-clause-updated c = λ key. c.in_ok-updated.ensures key ∙ ap (λ (assigned : List Assignment). list_any (λ a. is_same key a.0) assigned) c.as_slice.ensures
