use Rattle.std.proofs.Common.{List, map, ap, ◌∙◌}
use Rattle.mq_values.specs.Order.{cmp_key}
use Rattle.mq_ir.specs.Keys.{Tuple}
use Rattle.mq_shape.specs.Repeats.{first_twice}
use Rattle.mq_shape.proofs.KeyLemmas.{repeated_is}
use Rattle.mq_ir.specs.SortLaws.{mapped_ascending}
use Rattle.mq_shape.proofs.cells.cells_of.Goals as goal

pub returns-clause-repeated : goal.returns-clause-repeated
returns-clause-repeated c =
    let first = λ (row : Tuple × Tuple). row.0 in
    let tuples = λ (rows : List (Tuple × Tuple)). first_twice (map first rows) in
    c.in_ok-repeated.ensures
    ∙ ap tuples (c.deref.ensures.value ∙ c.in_ok-cells.ensures)
    ∙ ap first_twice (mapped_ascending first cmp_key c.args.rows)
    ∙ repeated_is (map first c.args.rows)
