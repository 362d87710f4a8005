use Rattle.std.proofs.Common.{sym, subst, ◌∙◌}
use Rattle.std.specs.List.Sorted.{IsStrictlySortedBy}
use Rattle.std.specs.Map.{keys_of}
use Rattle.mq_values.specs.Order.{cmp_key}
use Rattle.mq_ir.specs.Partitions.{Cells}
use Rattle.mq_delta_cells.specs.Changes.{has_moved}
use Rattle.mq_kept.proofs.refreshing.moved_to.Goals as goal

pub moved_between-requires : goal.moved_between-requires
moved_between-requires c =
    let Ascend = λ (cells : Cells). IsStrictlySortedBy cmp_key (keys_of cells) in
    record {
      before = subst Ascend (sym c.as_slice-before.ensures) c.requires.before;
      after = subst Ascend (sym c.as_slice-after.ensures) c.requires.after;
    }

pub returns-clause-moved : goal.returns-clause-moved
returns-clause-moved c = λ name. c.in_ok-moved.ensures name ∙ (λ i. has_moved (c.as_slice-before.ensures i) (c.as_slice-after.ensures i) name)
