use Rattle.std.proofs.Common.{◌≡◌, length, sym, ap, subst, ◌∙◌}
use Rattle.std.specs.List.{range_with_len}
use Rattle.mq_cells.specs.Numberings.{AreNumbered}
use Rattle.mq_cells.proofs.NumberLemmas.{in_order, numbered_in_order}
use Rattle.mq_cells.proofs.numbers.Numbers.new.Goals as goal

pub invariant_of-result : goal.invariant_of-result
invariant_of-result c =
    let keys = c.args.keys.now in
    let numbers = c.in_ok-numbers.ensures ∙ ap (range_with_len 0) (c.len.ensures ∙ ap length c.in_ok-index.ensures) in
    let same : in_order keys ≡ record { keys = c.in_ok-index.index; numbers = c.in_ok-numbers.numbers.items } =
    λ i. record { keys = sym c.in_ok-index.ensures i; numbers = sym numbers i } in
    subst AreNumbered same (numbered_in_order keys)
