use Rattle.std.proofs.Common.{List, ap, ◌∙◌}
use Rattle.std.specs.List.{list_any}
use Rattle.mq_ir.specs.Keys.{is_same}
use Rattle.mq_ir.specs.Shape.{Assignment}
use Rattle.mq_auto.proofs.rows.rows.Goals as goal

pub out_cell-requires : goal.out_cell-requires
out_cell-requires g c = λ key. c.in_ok-updated.ensures key ∙ ap (λ (assigned : List Assignment). list_any (λ a. is_same key a.0) assigned) c.as_slice.ensures
