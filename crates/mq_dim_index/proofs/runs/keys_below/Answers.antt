use Rattle.std.proofs.Common.{rules, slice_get}
use Rattle.std.specs.Ordering.{is_lt}
use Rattle.std.proofs.lemmas.List.Sorted.{IsPartitionPoint-from_clause}
use Rattle.mq_dim_index.specs.Runs.{cmp_bound}
use Rattle.mq_dim_index.proofs.RunLemmas.{parted_below, told_below}
use Rattle.mq_dim_index.proofs.runs.keys_below.Goals as goal

pub returns-clause-before : goal.returns-clause-before
returns-clause-before c =
    let keys = c.args.keys.now in
    let at = c.args.dimension in
    let w = c.args.bound.now in
    let n = c.partition_point.result in
    let point =
    IsPartitionPoint-from_clause (λ key. is_lt (cmp_bound (slice_get key at) w)) keys n c.partition_point.ensures.partitioned (parted_below at keys c.requires w) (λ a r f k. search rules)
    in
    told_below at w keys n point.0
