use Rattle.std.proofs.Common.{◌≡◌, List, length, sym, ap, subst, ◌∙◌}
use Rattle.std.specs.List.{range_with_len}
use Rattle.std.specs.List.Sorted.{IsStrictlySortedBy}
use Rattle.std.specs.Map.{keys_of}
use Rattle.mq_values.specs.Order.{cmp_key}
use Rattle.mq_ir.specs.Keys.{Tuple}
use Rattle.mq_ir.specs.Partitions.{Cells}
use Rattle.mq_cells.specs.IndexedStores.{input_over}
use Rattle.mq_cells.proofs.GatherLemmas.{keys_ascend, measures_of, ordered_input, take_whole}
use Rattle.mq_cells.proofs.NumberLemmas.{in_order}
use Rattle.mq_cells.proofs.gather.in_order.Goals as goal

pub new-requires : goal.new-requires
new-requires c =
    let input = c.args.input.now in
    let keys : c.deref.result.now ≡ keys_of input =
    c.deref.ensures.value ∙ c.loop-key.invariant.keys ∙ ap (λ (cells : Cells). keys_of cells) (take_whole input c.loop-key.key-index c.loop-key-test.false) in
    subst (λ (ks : List Tuple). IsStrictlySortedBy cmp_key ks) (sym keys) (keys_ascend input c.requires)

pub returns-clause-input : goal.returns-clause-input
returns-clause-input c =
    let input = c.args.input.now in
    let whole = take_whole input c.loop-key.key-index c.loop-key-test.false in
    let keys : c.deref.result.now ≡ keys_of input = c.deref.ensures.value ∙ c.loop-key.invariant.keys ∙ ap (λ (cells : Cells). keys_of cells) whole in
    let cells : c.in_ok-new.field-0 ≡ in_order (keys_of input) =
    λ i. record { keys = (c.in_ok-new.ensures.keys ∙ keys) i; numbers = (c.in_ok-new.ensures.numbers ∙ ap (λ (ks : List Tuple). range_with_len 0 (length ks)) keys) i } in
    let given = c.from_items.ensures ∙ c.loop-key.invariant.measures ∙ ap measures_of whole in
    (λ i. input_over (cells i) (given i)) ∙ ordered_input input
